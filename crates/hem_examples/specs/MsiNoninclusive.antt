-- The protocol noninclusive MSI: a mid may drop its value while copies stand below it.
use Rattle.std.specs.Prelude.{List, [], ◌∷◌, None, Some, codes}
use Rattle.hem_syntax.specs.declared.rule.Class.TheVariants.{ExtReq, ExtRsp, UpReq, UpRsp, DownReq, DownRsp}
use Rattle.hem_syntax.specs.declared.rule.Rule.{Rule}
use Rattle.hem_syntax.specs.declared.rule.Take.TheVariants as take
use Rattle.hem_syntax.specs.declared.rule.Hold.TheVariants as hold
use Rattle.hem_syntax.specs.declared.rule.Side.TheVariants as side
use Rattle.hem_syntax.specs.declared.rule.Origin.TheVariants as origin
use Rattle.hem_syntax.specs.declared.rule.Atom.TheVariants as atom
use Rattle.hem_syntax.specs.declared.rule.Value.TheVariants as value
use Rattle.hem_syntax.specs.declared.rule.Assign.TheVariants as assign
use Rattle.hem_syntax.specs.declared.rule.SendTo.TheVariants as send
use Rattle.hem_syntax.specs.Protocol.{Protocol}
use Rattle.hem_examples.specs.Rules.{name, id, set, status, rule}

-- the rules of the root, each behind its text
abbrev pub root_rules : List Rule
root_rules =
    -- rule gets_hit take me GetS need up free down free when st in S M, others all I S set me := S send me RsS val
    rule (name 0) (take.Me (id 4)) hold.Free hold.Free (atom.Field 0 (set 6) ∷ atom.OthersAll (set 3) ∷ []) (assign.Me (status 1) ∷ []) None None (send.Me (id 7) value.Val)
    -- rule gets_down take me GetS need up free down free when st in M, others any M lock down child send others in M Down 0
    ∷ rule (name 1) (take.Me (id 4)) hold.Free hold.Free (atom.Field 0 (set 4) ∷ atom.OthersAny (set 4) ∷ []) [] None (Some (side.Down, origin.Child)) (send.Others (set 4) (id 11) value.Zero)
    -- rule gets_done take kids DownR need up any down child when asked GetS set targets := S, me := S, val := rs free down send me RsS rs
    ∷ rule (name 2) (take.Kids (id 13)) hold.Any hold.Child (atom.Asked (id 4) ∷ []) (assign.Targets (status 1) ∷ assign.Me (status 1) ∷ assign.Val value.Rs ∷ []) (Some side.Down) None (send.Me (id 7) value.Rs)
    -- rule getm_hit take me GetM need up free down free when st in M, others all I set me := M send me RsM val
    ∷ rule (name 3) (take.Me (id 5)) hold.Free hold.Free (atom.Field 0 (set 4) ∷ atom.OthersAll (set 1) ∷ []) (assign.Me (status 2) ∷ []) None None (send.Me (id 8) value.Val)
    -- rule getm_inv take me GetM need up free down free when st in M, others any S M lock down child send others in S M Inv 0
    ∷ rule (name 4) (take.Me (id 5)) hold.Free hold.Free (atom.Field 0 (set 4) ∷ atom.OthersAny (set 6) ∷ []) [] None (Some (side.Down, origin.Child)) (send.Others (set 6) (id 10) value.Zero)
    -- rule getm_done take kids InvR need up any down child when asked GetM set targets := I, me := M, val := rs free down send me RsM rs
    ∷ rule (name 5) (take.Kids (id 12)) hold.Any hold.Child (atom.Asked (id 5) ∷ []) (assign.Targets (status 0) ∷ assign.Me (status 2) ∷ assign.Val value.Rs ∷ []) (Some side.Down) None (send.Me (id 8) value.Rs)
    -- rule put_m take me Put need up free down free when me in M set val := msg, me := I send me RsPut 0
    ∷ rule (name 6) (take.Me (id 6)) hold.Free hold.Free (atom.Me (set 4) ∷ []) (assign.Val value.Msg ∷ assign.Me (status 0) ∷ []) None None (send.Me (id 9) value.Zero)
    -- rule put_s take me Put need up free down free when me in S set me := I send me RsPut 0
    ∷ rule (name 7) (take.Me (id 6)) hold.Free hold.Free (atom.Me (set 2) ∷ []) (assign.Me (status 0) ∷ []) None None (send.Me (id 9) value.Zero)
    -- rule put_i take me Put need up free down free when me in I send me RsPut 0
    ∷ rule (name 8) (take.Me (id 6)) hold.Free hold.Free (atom.Me (set 1) ∷ []) [] None None (send.Me (id 9) value.Zero)
    ∷ []

-- the rules of the mid, each behind its text
abbrev pub mid_rules : List Rule
mid_rules =
    -- rule gets_hit take me GetS need up free down free when st in S M, own in S, others all I S set me := S send me RsS val
    rule (name 0) (take.Me (id 4)) hold.Free hold.Free (atom.Field 0 (set 6) ∷ atom.Field 1 (set 2) ∷ atom.OthersAll (set 3) ∷ []) (assign.Me (status 1) ∷ []) None None (send.Me (id 7) value.Val)
    -- rule gets_down take me GetS need up free down free when st in M, others any M lock down child send others in M Down 0
    ∷ rule (name 1) (take.Me (id 4)) hold.Free hold.Free (atom.Field 0 (set 4) ∷ atom.OthersAny (set 4) ∷ []) [] None (Some (side.Down, origin.Child)) (send.Others (set 4) (id 11) value.Zero)
    -- rule gets_done take kids DownR need up any down child when asked GetS set targets := S, me := S, val := rs, own := S free down send me RsS rs
    ∷ rule (name 2) (take.Kids (id 13)) hold.Any hold.Child (atom.Asked (id 4) ∷ []) (assign.Targets (status 1) ∷ assign.Me (status 1) ∷ assign.Val value.Rs ∷ assign.Field 1 (status 1) ∷ []) (Some side.Down) None (send.Me (id 7) value.Rs)
    -- rule gets_fetch take me GetS need up free down free when st in S M, own in I, others any S, others all I S lock down child send others in S Fetch 0
    ∷ rule (name 9) (take.Me (id 4)) hold.Free hold.Free (atom.Field 0 (set 6) ∷ atom.Field 1 (set 1) ∷ atom.OthersAny (set 2) ∷ atom.OthersAll (set 3) ∷ []) [] None (Some (side.Down, origin.Child)) (send.Others (set 2) (id 14) value.Zero)
    -- rule gets_fetched take kids FetchR need up any down child when asked GetS set me := S, val := rs, own := S free down send me RsS rs
    ∷ rule (name 10) (take.Kids (id 15)) hold.Any hold.Child (atom.Asked (id 4) ∷ []) (assign.Me (status 1) ∷ assign.Val value.Rs ∷ assign.Field 1 (status 1) ∷ []) (Some side.Down) None (send.Me (id 7) value.Rs)
    -- rule getm_hit take me GetM need up free down free when st in M, others all I set me := M send me RsM val
    ∷ rule (name 3) (take.Me (id 5)) hold.Free hold.Free (atom.Field 0 (set 4) ∷ atom.OthersAll (set 1) ∷ []) (assign.Me (status 2) ∷ []) None None (send.Me (id 8) value.Val)
    -- rule getm_inv take me GetM need up free down free when st in M, others any S M lock down child send others in S M Inv 0
    ∷ rule (name 4) (take.Me (id 5)) hold.Free hold.Free (atom.Field 0 (set 4) ∷ atom.OthersAny (set 6) ∷ []) [] None (Some (side.Down, origin.Child)) (send.Others (set 6) (id 10) value.Zero)
    -- rule getm_done take kids InvR need up any down child when asked GetM set targets := I, me := M, val := rs free down send me RsM rs
    ∷ rule (name 5) (take.Kids (id 12)) hold.Any hold.Child (atom.Asked (id 5) ∷ []) (assign.Targets (status 0) ∷ assign.Me (status 2) ∷ assign.Val value.Rs ∷ []) (Some side.Down) None (send.Me (id 8) value.Rs)
    -- rule put take me Put need up free down free when me in S M set val := msg, own := S, me := I send me RsPut 0
    ∷ rule (name 11) (take.Me (id 6)) hold.Free hold.Free (atom.Me (set 6) ∷ []) (assign.Val value.Msg ∷ assign.Field 1 (status 1) ∷ assign.Me (status 0) ∷ []) None None (send.Me (id 9) value.Zero)
    -- rule put_i take me Put need up free down free when me in I send me RsPut 0
    ∷ rule (name 8) (take.Me (id 6)) hold.Free hold.Free (atom.Me (set 1) ∷ []) [] None None (send.Me (id 9) value.Zero)
    -- rule gets_up take me GetS need up free down free when st in I lock up child send parent GetS 0
    ∷ rule (name 12) (take.Me (id 4)) hold.Free hold.Free (atom.Field 0 (set 1) ∷ []) [] None (Some (side.Up, origin.Child)) (send.Parent (id 4) value.Zero)
    -- rule gets_resp take parent RsS need up child down free set st := S, val := msg, own := S, me := S free up send me RsS msg
    ∷ rule (name 13) (take.Parent (id 7)) hold.Child hold.Free [] (assign.Field 0 (status 1) ∷ assign.Val value.Msg ∷ assign.Field 1 (status 1) ∷ assign.Me (status 1) ∷ []) (Some side.Up) None (send.Me (id 7) value.Msg)
    -- rule getm_up take me GetM need up free down free when st in I S lock up child send parent GetM 0
    ∷ rule (name 14) (take.Me (id 5)) hold.Free hold.Free (atom.Field 0 (set 3) ∷ []) [] None (Some (side.Up, origin.Child)) (send.Parent (id 5) value.Zero)
    -- rule getm_resp take parent RsM need up child down free when others all I set st := M, val := msg, me := M free up send me RsM msg
    ∷ rule (name 15) (take.Parent (id 8)) hold.Child hold.Free (atom.OthersAll (set 1) ∷ []) (assign.Field 0 (status 2) ∷ assign.Val value.Msg ∷ assign.Me (status 2) ∷ []) (Some side.Up) None (send.Me (id 8) value.Msg)
    -- rule getm_resp_inv take parent RsM need up child down free when others any S M set st := M, val := msg free up lock down child send others in S M Inv 0
    ∷ rule (name 16) (take.Parent (id 8)) hold.Child hold.Free (atom.OthersAny (set 6) ∷ []) (assign.Field 0 (status 2) ∷ assign.Val value.Msg ∷ []) (Some side.Up) (Some (side.Down, origin.Child)) (send.Others (set 6) (id 10) value.Zero)
    -- rule inv take parent Inv need up any down free when st in S M, kids all I set st := I, own := I send parent InvR val
    ∷ rule (name 17) (take.Parent (id 10)) hold.Any hold.Free (atom.Field 0 (set 6) ∷ atom.KidsAll (set 1) ∷ []) (assign.Field 0 (status 0) ∷ assign.Field 1 (status 0) ∷ []) None None (send.Parent (id 12) value.Val)
    -- rule inv_down take parent Inv need up any down free when st in S M, kids any S M lock down parent send kids in S M Inv 0
    ∷ rule (name 18) (take.Parent (id 10)) hold.Any hold.Free (atom.Field 0 (set 6) ∷ atom.KidsAny (set 6) ∷ []) [] None (Some (side.Down, origin.Parent)) (send.Kids (set 6) (id 10) value.Zero)
    -- rule inv_done take kids InvR need up any down parent when asked Inv set targets := I, st := I, own := I free down send parent InvR rs
    ∷ rule (name 19) (take.Kids (id 12)) hold.Any hold.Parent (atom.Asked (id 10) ∷ []) (assign.Targets (status 0) ∷ assign.Field 0 (status 0) ∷ assign.Field 1 (status 0) ∷ []) (Some side.Down) None (send.Parent (id 12) value.Rs)
    -- rule downgrade take parent Down need up any down free when st in M, own in S, kids all I S set st := S send parent DownR val
    ∷ rule (name 20) (take.Parent (id 11)) hold.Any hold.Free (atom.Field 0 (set 4) ∷ atom.Field 1 (set 2) ∷ atom.KidsAll (set 3) ∷ []) (assign.Field 0 (status 1) ∷ []) None None (send.Parent (id 13) value.Val)
    -- rule down_down take parent Down need up any down free when st in M, kids any M lock down parent send kids in M Down 0
    ∷ rule (name 21) (take.Parent (id 11)) hold.Any hold.Free (atom.Field 0 (set 4) ∷ atom.KidsAny (set 4) ∷ []) [] None (Some (side.Down, origin.Parent)) (send.Kids (set 4) (id 11) value.Zero)
    -- rule down_done take kids DownR need up any down parent when asked Down set targets := S, st := S, val := rs, own := S free down send parent DownR rs
    ∷ rule (name 22) (take.Kids (id 13)) hold.Any hold.Parent (atom.Asked (id 11) ∷ []) (assign.Targets (status 1) ∷ assign.Field 0 (status 1) ∷ assign.Val value.Rs ∷ assign.Field 1 (status 1) ∷ []) (Some side.Down) None (send.Parent (id 13) value.Rs)
    -- rule down_fetch take parent Down need up any down free when st in M, own in I, kids any S, kids all I S lock down parent send kids in S Fetch 0
    ∷ rule (name 23) (take.Parent (id 11)) hold.Any hold.Free (atom.Field 0 (set 4) ∷ atom.Field 1 (set 1) ∷ atom.KidsAny (set 2) ∷ atom.KidsAll (set 3) ∷ []) [] None (Some (side.Down, origin.Parent)) (send.Kids (set 2) (id 14) value.Zero)
    -- rule down_fetched take kids FetchR need up any down parent when asked Down set st := S, val := rs, own := S free down send parent DownR rs
    ∷ rule (name 24) (take.Kids (id 15)) hold.Any hold.Parent (atom.Asked (id 11) ∷ []) (assign.Field 0 (status 1) ∷ assign.Val value.Rs ∷ assign.Field 1 (status 1) ∷ []) (Some side.Down) None (send.Parent (id 13) value.Rs)
    -- rule fetch take parent Fetch need up any down free when st in S, own in S send parent FetchR val
    ∷ rule (name 25) (take.Parent (id 14)) hold.Any hold.Free (atom.Field 0 (set 2) ∷ atom.Field 1 (set 2) ∷ []) [] None None (send.Parent (id 15) value.Val)
    -- rule fetch_down take parent Fetch need up any down free when st in S, own in I, kids any S lock down parent send kids in S Fetch 0
    ∷ rule (name 26) (take.Parent (id 14)) hold.Any hold.Free (atom.Field 0 (set 2) ∷ atom.Field 1 (set 1) ∷ atom.KidsAny (set 2) ∷ []) [] None (Some (side.Down, origin.Parent)) (send.Kids (set 2) (id 14) value.Zero)
    -- rule fetch_back take kids FetchR need up any down parent when asked Fetch set val := rs, own := S free down send parent FetchR rs
    ∷ rule (name 27) (take.Kids (id 15)) hold.Any hold.Parent (atom.Asked (id 14) ∷ []) (assign.Val value.Rs ∷ assign.Field 1 (status 1) ∷ []) (Some side.Down) None (send.Parent (id 15) value.Rs)
    -- rule evict take none need up free down free when kids all I lock up self send parent Put val
    ∷ rule (name 28) take.Nothing hold.Free hold.Free (atom.KidsAll (set 1) ∷ []) [] None (Some (side.Up, origin.Own)) (send.Parent (id 6) value.Val)
    -- rule evict_ack take parent RsPut need up self down free set st := I, own := I free up
    ∷ rule (name 29) (take.Parent (id 9)) hold.Own hold.Free [] (assign.Field 0 (status 0) ∷ assign.Field 1 (status 0) ∷ []) (Some side.Up) None send.Nothing
    -- rule recall take none need up free down free when kids any S M lock down self send kids in S M Inv 0
    ∷ rule (name 30) take.Nothing hold.Free hold.Free (atom.KidsAny (set 6) ∷ []) [] None (Some (side.Down, origin.Own)) (send.Kids (set 6) (id 10) value.Zero)
    -- rule recall_done take kids InvR need up any down self set targets := I, val := rs, own := S free down
    ∷ rule (name 31) (take.Kids (id 12)) hold.Any hold.Own [] (assign.Targets (status 0) ∷ assign.Val value.Rs ∷ assign.Field 1 (status 1) ∷ []) (Some side.Down) None send.Nothing
    -- rule drop take none need up free down free when own in S, kids any S M set own := I
    ∷ rule (name 32) take.Nothing hold.Free hold.Free (atom.Field 1 (set 2) ∷ atom.KidsAny (set 6) ∷ []) (assign.Field 1 (status 0) ∷ []) None None send.Nothing
    ∷ []

-- the rules of the leaf, each behind its text
abbrev pub leaf_rules : List Rule
leaf_rules =
    -- rule ld_hit take me Ld need up free down free when st in S M send me LdR val
    rule (name 33) (take.Me (id 0)) hold.Free hold.Free (atom.Field 0 (set 6) ∷ []) [] None None (send.Me (id 2) value.Val)
    -- rule st_hit take me St need up free down free when st in M set val := msg send me StR 0
    ∷ rule (name 34) (take.Me (id 1)) hold.Free hold.Free (atom.Field 0 (set 4) ∷ []) (assign.Val value.Msg ∷ []) None None (send.Me (id 3) value.Zero)
    -- rule ld_miss take me Ld need up free down free when st in I lock up child send parent GetS 0
    ∷ rule (name 35) (take.Me (id 0)) hold.Free hold.Free (atom.Field 0 (set 1) ∷ []) [] None (Some (side.Up, origin.Child)) (send.Parent (id 4) value.Zero)
    -- rule st_miss take me St need up free down free when st in I S lock up child send parent GetM 0
    ∷ rule (name 36) (take.Me (id 1)) hold.Free hold.Free (atom.Field 0 (set 3) ∷ []) [] None (Some (side.Up, origin.Child)) (send.Parent (id 5) value.Zero)
    -- rule ld_resp take parent RsS need up child down free set st := S, val := msg free up send me LdR msg
    ∷ rule (name 37) (take.Parent (id 7)) hold.Child hold.Free [] (assign.Field 0 (status 1) ∷ assign.Val value.Msg ∷ []) (Some side.Up) None (send.Me (id 2) value.Msg)
    -- rule st_resp take parent RsM need up child down free set st := M, val := kept free up send me StR 0
    ∷ rule (name 38) (take.Parent (id 8)) hold.Child hold.Free [] (assign.Field 0 (status 2) ∷ assign.Val value.Kept ∷ []) (Some side.Up) None (send.Me (id 3) value.Zero)
    -- rule evict take none need up free down free lock up self send parent Put val
    ∷ rule (name 28) take.Nothing hold.Free hold.Free [] [] None (Some (side.Up, origin.Own)) (send.Parent (id 6) value.Val)
    -- rule evict_ack take parent RsPut need up self down free set st := I free up
    ∷ rule (name 29) (take.Parent (id 9)) hold.Own hold.Free [] (assign.Field 0 (status 0) ∷ []) (Some side.Up) None send.Nothing
    -- rule inv take parent Inv need up any down free when st in S M set st := I send parent InvR val
    ∷ rule (name 17) (take.Parent (id 10)) hold.Any hold.Free (atom.Field 0 (set 6) ∷ []) (assign.Field 0 (status 0) ∷ []) None None (send.Parent (id 12) value.Val)
    -- rule downgrade take parent Down need up any down free when st in M set st := S send parent DownR val
    ∷ rule (name 20) (take.Parent (id 11)) hold.Any hold.Free (atom.Field 0 (set 4) ∷ []) (assign.Field 0 (status 1) ∷ []) None None (send.Parent (id 13) value.Val)
    -- rule fetch take parent Fetch need up any down free when st in S send parent FetchR val
    ∷ rule (name 25) (take.Parent (id 14)) hold.Any hold.Free (atom.Field 0 (set 2) ∷ []) [] None None (send.Parent (id 15) value.Val)
    ∷ []

-- the protocol
abbrev pub msi_noninclusive : Protocol
msi_noninclusive =
    record {
      name = codes "msi_noninclusive";
      statuses = codes "I" ∷ codes "S" ∷ codes "M" ∷ [];
      messages =
          (codes "Ld", ExtReq)
          ∷ (codes "St", ExtReq)
          ∷ (codes "LdR", ExtRsp)
          ∷ (codes "StR", ExtRsp)
          ∷ (codes "GetS", UpReq)
          ∷ (codes "GetM", UpReq)
          ∷ (codes "Put", UpReq)
          ∷ (codes "RsS", DownRsp)
          ∷ (codes "RsM", DownRsp)
          ∷ (codes "RsPut", DownRsp)
          ∷ (codes "Inv", DownReq)
          ∷ (codes "Down", DownReq)
          ∷ (codes "InvR", UpRsp)
          ∷ (codes "DownR", UpRsp)
          ∷ (codes "Fetch", DownReq)
          ∷ (codes "FetchR", UpRsp)
          ∷ [];
      rule_names =
          codes "gets_hit"
          ∷ codes "gets_down"
          ∷ codes "gets_done"
          ∷ codes "getm_hit"
          ∷ codes "getm_inv"
          ∷ codes "getm_done"
          ∷ codes "put_m"
          ∷ codes "put_s"
          ∷ codes "put_i"
          ∷ codes "gets_fetch"
          ∷ codes "gets_fetched"
          ∷ codes "put"
          ∷ codes "gets_up"
          ∷ codes "gets_resp"
          ∷ codes "getm_up"
          ∷ codes "getm_resp"
          ∷ codes "getm_resp_inv"
          ∷ codes "inv"
          ∷ codes "inv_down"
          ∷ codes "inv_done"
          ∷ codes "downgrade"
          ∷ codes "down_down"
          ∷ codes "down_done"
          ∷ codes "down_fetch"
          ∷ codes "down_fetched"
          ∷ codes "fetch"
          ∷ codes "fetch_down"
          ∷ codes "fetch_back"
          ∷ codes "evict"
          ∷ codes "evict_ack"
          ∷ codes "recall"
          ∷ codes "recall_done"
          ∷ codes "drop"
          ∷ codes "ld_hit"
          ∷ codes "st_hit"
          ∷ codes "ld_miss"
          ∷ codes "st_miss"
          ∷ codes "ld_resp"
          ∷ codes "st_resp"
          ∷ [];
      root = record { fields = (codes "st", status 2) ∷ []; dir = Some (status 0); rules = root_rules };
      mid = record { fields = (codes "st", status 0) ∷ (codes "own", status 0) ∷ []; dir = Some (status 0); rules = mid_rules };
      leaf = record { fields = (codes "st", status 0) ∷ []; dir = None; rules = leaf_rules };
    }
