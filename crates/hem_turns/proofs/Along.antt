-- Turns one after another.
use Rattle.std.proofs.Common.{◌≡◌, refl, ap, ◌∙◌, subst, ℕ, suc, ◌+◌, ◌<◌, ◌≤◌, arith, List, length}
use Rattle.hem_base.specs.declared.ids.Kind.{Kind}
use Rattle.hem_base.specs.declared.ids.LineId.{LineId}
use Rattle.hem_base.specs.declared.ids.ObjectId.{ObjectId}
use Rattle.hem_syntax.specs.Protocol.{Protocol}
use Rattle.hem_turns.specs.OnLine.{OnLine, HasFired, IsIdle, Turns, HaveFired}

-- so many turns were made, and there is room for the rest
pub record IsUnderWay (p : Protocol) (kind : Kind) (k : ℕ) (line : LineId) (object : ObjectId) (children : List ObjectId) (n : ℕ) (old now : OnLine) : Type 0 where
  pub turns : Turns p kind k line object children n old now
  pub kids : length now.ends.kids ≡ length old.ends.kids
  pub room : old.room ≤ now.room + n

pub at-first : (p : Protocol) (kind : Kind) (k : ℕ) (line : LineId) (object : ObjectId) (children : List ObjectId) (old : OnLine) → IsUnderWay p kind k line object children 0 old old
at-first p kind k line object children old = record { turns = refl; kids = refl; room = omega arith }

pub one-turn : (p : Protocol) (kind : Kind) (k : ℕ) (line : LineId) (object : ObjectId) (children : List ObjectId) (n : ℕ) (old now next : OnLine) → IsUnderWay p kind k line object children n old now → HasFired p kind k line object children now next → IsUnderWay p kind k line object children (n + 1) old next
one-turn p kind k line object children n old now next so fired =
    let more : suc n ≡ n + 1 = omega arith in
    let seen = ap (λ (l : OnLine). l.room) fired.looked.same in
    let kids_seen = fired.looked.ends.kids.count in
    let room = so.room in
    let left = fired.fired.room in
    record {
      turns = subst (λ m. Turns p kind k line object children m old next) more (now, so.turns, fired);
      kids = fired.fired.gives.kids.count ∙ fired.fired.takes.kids.count ∙ kids_seen ∙ so.kids;
      room = omega (arith, seen, room, left);
    }

pub stopped : (p : Protocol) (kind : Kind) (k : ℕ) (line : LineId) (object : ObjectId) (children : List ObjectId) (n most : ℕ) (old now next : OnLine) → n < most → IsUnderWay p kind k line object children n old now → IsIdle p kind k now next → HaveFired p kind k line object children n most old next
stopped p kind k line object children n most old now next less so idle = record { last = now; turns = so.turns; idle = λ fewer. idle; all = λ same. absurd (omega (arith, less, same)) }

pub all-made : (p : Protocol) (kind : Kind) (k : ℕ) (line : LineId) (object : ObjectId) (children : List ObjectId) (n most : ℕ) (old now : OnLine) → n ≡ most → IsUnderWay p kind k line object children n old now → HaveFired p kind k line object children most most old now
all-made p kind k line object children n most old now same so = record { last = now; turns = subst (λ m. Turns p kind k line object children m old now) same so.turns; idle = λ less. absurd (omega (arith, less)); all = λ it. refl }
