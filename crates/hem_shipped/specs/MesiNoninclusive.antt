-- The text of noninclusive MESI by its lines, as it is promised.
use Rattle.std.specs.Prelude.{ℕ, List, [], ◌∷◌, codes}

-- the lines of the protocol mesi_noninclusive
unfoldable pub mesi_noninclusive_lines : List (List ℕ)
mesi_noninclusive_lines =
    codes "protocol mesi_noninclusive" ∷
    codes "status I S E M" ∷
    codes "message Ld ext_req" ∷
    codes "message St ext_req" ∷
    codes "message LdR ext_rsp" ∷
    codes "message StR ext_rsp" ∷
    codes "message GetS up_req" ∷
    codes "message GetM up_req" ∷
    codes "message Put up_req" ∷
    codes "message RsS down_rsp" ∷
    codes "message RsM down_rsp" ∷
    codes "message RsPut down_rsp" ∷
    codes "message Inv down_req" ∷
    codes "message Down down_req" ∷
    codes "message InvR up_rsp" ∷
    codes "message DownR up_rsp" ∷
    codes "message RsE down_rsp" ∷
    codes "message Fetch down_req" ∷
    codes "message FetchR up_rsp" ∷
    codes "kind root" ∷
    codes "field st init M" ∷
    codes "dir init I" ∷
    codes "rule gets_hit take me GetS need up free down free when st in S set me := S send me RsS val end" ∷
    codes "rule gets_share take me GetS need up free down free when st in M, others any S, others all I S set me := S send me RsS val end" ∷
    codes "rule gets_excl take me GetS need up free down free when st in M, others all I set me := M send me RsE val end" ∷
    codes "rule gets_down take me GetS need up free down free when st in M, others any M lock down child send others in M Down 0 end" ∷
    codes "rule gets_done take kids DownR need up any down child when asked GetS set targets := S, me := S, val := rs free down send me RsS rs end" ∷
    codes "rule getm_hit take me GetM need up free down free when st in M, others all I set me := M send me RsM val end" ∷
    codes "rule getm_inv take me GetM need up free down free when st in M, others any S M lock down child send others in S M Inv 0 end" ∷
    codes "rule getm_done take kids InvR need up any down child when asked GetM set targets := I, me := M, val := rs free down send me RsM rs end" ∷
    codes "rule put_m take me Put need up free down free when me in M set val := msg, me := I send me RsPut 0 end" ∷
    codes "rule put_s take me Put need up free down free when me in S set me := I send me RsPut 0 end" ∷
    codes "rule put_i take me Put need up free down free when me in I send me RsPut 0 end" ∷
    codes "end" ∷
    codes "kind mid" ∷
    codes "field st init I" ∷
    codes "field own init I" ∷
    codes "dir init I" ∷
    codes "rule gets_hit take me GetS need up free down free when st in S, own in S set me := S send me RsS val end" ∷
    codes "rule gets_share take me GetS need up free down free when st in M, own in S, others any S, others all I S set me := S send me RsS val end" ∷
    codes "rule gets_excl take me GetS need up free down free when st in M, own in S, others all I set me := M send me RsE val end" ∷
    codes "rule gets_down take me GetS need up free down free when st in M, others any M lock down child send others in M Down 0 end" ∷
    codes "rule gets_done take kids DownR need up any down child when asked GetS set targets := S, me := S, val := rs, own := S free down send me RsS rs end" ∷
    codes "rule gets_fetch take me GetS need up free down free when st in S M, own in I, others any S, others all I S lock down child send others in S Fetch 0 end" ∷
    codes "rule gets_fetched take kids FetchR need up any down child when asked GetS set me := S, val := rs, own := S free down send me RsS rs end" ∷
    codes "rule getm_hit take me GetM need up free down free when st in M, others all I set me := M send me RsM val end" ∷
    codes "rule getm_inv take me GetM need up free down free when st in M, others any S M lock down child send others in S M Inv 0 end" ∷
    codes "rule getm_done take kids InvR need up any down child when asked GetM set targets := I, me := M, val := rs free down send me RsM rs end" ∷
    codes "rule put take me Put need up free down free when me in S M set val := msg, own := S, me := I send me RsPut 0 end" ∷
    codes "rule put_i take me Put need up free down free when me in I send me RsPut 0 end" ∷
    codes "rule gets_up take me GetS need up free down free when st in I lock up child send parent GetS 0 end" ∷
    codes "rule gets_resp take parent RsS need up child down free set st := S, val := msg, own := S, me := S free up send me RsS msg end" ∷
    codes "rule gets_resp_e take parent RsE need up child down free set st := M, val := msg, own := S, me := M free up send me RsE msg end" ∷
    codes "rule getm_up take me GetM need up free down free when st in I S lock up child send parent GetM 0 end" ∷
    codes "rule getm_resp take parent RsM need up child down free when others all I set st := M, val := msg, me := M free up send me RsM msg end" ∷
    codes "rule getm_resp_inv take parent RsM need up child down free when others any S M set st := M, val := msg free up lock down child send others in S M Inv 0 end" ∷
    codes "rule inv take parent Inv need up any down free when st in S M, kids all I set st := I, own := I send parent InvR val end" ∷
    codes "rule inv_down take parent Inv need up any down free when st in S M, kids any S M lock down parent send kids in S M Inv 0 end" ∷
    codes "rule inv_done take kids InvR need up any down parent when asked Inv set targets := I, st := I, own := I free down send parent InvR rs end" ∷
    codes "rule downgrade take parent Down need up any down free when st in M, own in S, kids all I S set st := S send parent DownR val end" ∷
    codes "rule down_down take parent Down need up any down free when st in M, kids any M lock down parent send kids in M Down 0 end" ∷
    codes "rule down_done take kids DownR need up any down parent when asked Down set targets := S, st := S, val := rs, own := S free down send parent DownR rs end" ∷
    codes "rule down_fetch take parent Down need up any down free when st in M, own in I, kids any S, kids all I S lock down parent send kids in S Fetch 0 end" ∷
    codes "rule down_fetched take kids FetchR need up any down parent when asked Down set st := S, val := rs, own := S free down send parent DownR rs end" ∷
    codes "rule fetch take parent Fetch need up any down free when st in S, own in S send parent FetchR val end" ∷
    codes "rule fetch_down take parent Fetch need up any down free when st in S, own in I, kids any S lock down parent send kids in S Fetch 0 end" ∷
    codes "rule fetch_back take kids FetchR need up any down parent when asked Fetch set val := rs, own := S free down send parent FetchR rs end" ∷
    codes "rule evict take none need up free down free when kids all I lock up self send parent Put val end" ∷
    codes "rule evict_ack take parent RsPut need up self down free set st := I, own := I free up end" ∷
    codes "rule recall take none need up free down free when kids any S M lock down self send kids in S M Inv 0 end" ∷
    codes "rule recall_done take kids InvR need up any down self set targets := I, val := rs, own := S free down end" ∷
    codes "rule drop take none need up free down free when own in S, kids any S M set own := I end" ∷
    codes "end" ∷
    codes "kind leaf" ∷
    codes "field st init I" ∷
    codes "rule ld_hit take me Ld need up free down free when st in S E M send me LdR val end" ∷
    codes "rule st_hit take me St need up free down free when st in E M set st := M, val := msg send me StR 0 end" ∷
    codes "rule ld_miss take me Ld need up free down free when st in I lock up child send parent GetS 0 end" ∷
    codes "rule st_miss take me St need up free down free when st in I S lock up child send parent GetM 0 end" ∷
    codes "rule ld_resp take parent RsS need up child down free set st := S, val := msg free up send me LdR msg end" ∷
    codes "rule ld_resp_e take parent RsE need up child down free set st := E, val := msg free up send me LdR msg end" ∷
    codes "rule st_resp take parent RsM need up child down free set st := M, val := kept free up send me StR 0 end" ∷
    codes "rule evict take none need up free down free lock up self send parent Put val end" ∷
    codes "rule evict_ack take parent RsPut need up self down free set st := I free up end" ∷
    codes "rule inv take parent Inv need up any down free when st in S E M set st := I send parent InvR val end" ∷
    codes "rule downgrade take parent Down need up any down free when st in E M set st := S send parent DownR val end" ∷
    codes "rule fetch take parent Fetch need up any down free when st in S send parent FetchR val end" ∷
    codes "end" ∷
    codes "end" ∷
    []
