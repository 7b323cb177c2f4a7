-- The text of inclusive MSI by its lines, as it is promised.
use Rattle.std.specs.Prelude.{ℕ, List, [], ◌∷◌, codes}

-- the lines of the protocol msi_inclusive
unfoldable pub msi_inclusive_lines : List (List ℕ)
msi_inclusive_lines =
    codes "protocol msi_inclusive" ∷
    codes "status I S M" ∷
    codes "message Ld ext_req" ∷
    codes "message St ext_req" ∷
    codes "message LdR ext_rsp" ∷
    codes "message StR ext_rsp" ∷
    codes "message GetS up_req" ∷
    codes "message GetM up_req" ∷
    codes "message Put up_req" ∷
    codes "message RsS down_rsp" ∷
    codes "message RsM down_rsp" ∷
    codes "message RsPut down_rsp" ∷
    codes "message Inv down_req" ∷
    codes "message Down down_req" ∷
    codes "message InvR up_rsp" ∷
    codes "message DownR up_rsp" ∷
    codes "kind root" ∷
    codes "field st init M" ∷
    codes "dir init I" ∷
    codes "rule gets_hit take me GetS need up free down free when st in S M, others all I S set me := S send me RsS val end" ∷
    codes "rule gets_down take me GetS need up free down free when st in M, others any M lock down child send others in M Down 0 end" ∷
    codes "rule gets_done take kids DownR need up any down child when asked GetS set targets := S, me := S, val := rs free down send me RsS rs end" ∷
    codes "rule getm_hit take me GetM need up free down free when st in M, others all I set me := M send me RsM val end" ∷
    codes "rule getm_inv take me GetM need up free down free when st in M, others any S M lock down child send others in S M Inv 0 end" ∷
    codes "rule getm_done take kids InvR need up any down child when asked GetM set targets := I, me := M, val := rs free down send me RsM rs end" ∷
    codes "rule put_m take me Put need up free down free when me in M set val := msg, me := I send me RsPut 0 end" ∷
    codes "rule put_s take me Put need up free down free when me in S set me := I send me RsPut 0 end" ∷
    codes "rule put_i take me Put need up free down free when me in I send me RsPut 0 end" ∷
    codes "end" ∷
    codes "kind mid" ∷
    codes "field st init I" ∷
    codes "dir init I" ∷
    codes "rule gets_hit take me GetS need up free down free when st in S M, others all I S set me := S send me RsS val end" ∷
    codes "rule gets_down take me GetS need up free down free when st in M, others any M lock down child send others in M Down 0 end" ∷
    codes "rule gets_done take kids DownR need up any down child when asked GetS set targets := S, me := S, val := rs free down send me RsS rs end" ∷
    codes "rule getm_hit take me GetM need up free down free when st in M, others all I set me := M send me RsM val end" ∷
    codes "rule getm_inv take me GetM need up free down free when st in M, others any S M lock down child send others in S M Inv 0 end" ∷
    codes "rule getm_done take kids InvR need up any down child when asked GetM set targets := I, me := M, val := rs free down send me RsM rs end" ∷
    codes "rule put_m take me Put need up free down free when me in M set val := msg, me := I send me RsPut 0 end" ∷
    codes "rule put_s take me Put need up free down free when me in S set me := I send me RsPut 0 end" ∷
    codes "rule put_i take me Put need up free down free when me in I send me RsPut 0 end" ∷
    codes "rule gets_up take me GetS need up free down free when st in I lock up child send parent GetS 0 end" ∷
    codes "rule gets_resp take parent RsS need up child down free set st := S, val := msg, me := S free up send me RsS msg end" ∷
    codes "rule getm_up take me GetM need up free down free when st in I S lock up child send parent GetM 0 end" ∷
    codes "rule getm_resp take parent RsM need up child down free when others all I set st := M, val := msg, me := M free up send me RsM msg end" ∷
    codes "rule getm_resp_inv take parent RsM need up child down free when others any S M set st := M, val := msg free up lock down child send others in S M Inv 0 end" ∷
    codes "rule inv take parent Inv need up any down free when st in S M, kids all I set st := I send parent InvR val end" ∷
    codes "rule inv_down take parent Inv need up any down free when st in S M, kids any S M lock down parent send kids in S M Inv 0 end" ∷
    codes "rule inv_done take kids InvR need up any down parent when asked Inv set targets := I, st := I free down send parent InvR rs end" ∷
    codes "rule downgrade take parent Down need up any down free when st in M, kids all I S set st := S send parent DownR val end" ∷
    codes "rule down_down take parent Down need up any down free when st in M, kids any M lock down parent send kids in M Down 0 end" ∷
    codes "rule down_done take kids DownR need up any down parent when asked Down set targets := S, st := S, val := rs free down send parent DownR rs end" ∷
    codes "rule evict take none need up free down free when kids all I lock up self send parent Put val end" ∷
    codes "rule evict_ack take parent RsPut need up self down free set st := I free up end" ∷
    codes "rule recall take none need up free down free when kids any S M lock down self send kids in S M Inv 0 end" ∷
    codes "rule recall_done take kids InvR need up any down self set targets := I, val := rs free down end" ∷
    codes "end" ∷
    codes "kind leaf" ∷
    codes "field st init I" ∷
    codes "rule ld_hit take me Ld need up free down free when st in S M send me LdR val end" ∷
    codes "rule st_hit take me St need up free down free when st in M set val := msg send me StR 0 end" ∷
    codes "rule ld_miss take me Ld need up free down free when st in I lock up child send parent GetS 0 end" ∷
    codes "rule st_miss take me St need up free down free when st in I S lock up child send parent GetM 0 end" ∷
    codes "rule ld_resp take parent RsS need up child down free set st := S, val := msg free up send me LdR msg end" ∷
    codes "rule st_resp take parent RsM need up child down free set st := M, val := kept free up send me StR 0 end" ∷
    codes "rule evict take none need up free down free lock up self send parent Put val end" ∷
    codes "rule evict_ack take parent RsPut need up self down free set st := I free up end" ∷
    codes "rule inv take parent Inv need up any down free when st in S M set st := I send parent InvR val end" ∷
    codes "rule downgrade take parent Down need up any down free when st in M set st := S send parent DownR val end" ∷
    codes "end" ∷
    codes "end" ∷
    []
