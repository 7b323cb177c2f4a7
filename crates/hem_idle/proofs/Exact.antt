-- Two ends of a channel that know all and no more know each other.
use Rattle.std.proofs.Common.{◌≡◌, ap, sym, ◌∙◌, subst, arith, List, [], ◌++◌, length, length-append, Option, Some, None}
use Rattle.std.proofs.lemmas.List.{append_cancel_left, append-nil}
use mathlib.Core.List.{IsPrefix}
use Rattle.hem_base.specs.declared.ids.Carried.{Carried}
use Rattle.hem_locks.proofs.Clean.{is_empty}
use Rattle.hem_wire.specs.Seen.{Giving, Getting}
use Rattle.hem_ends.specs.Ends.{Kid, Ends, IfThere}
use Rattle.hem_ends.specs.Edges.{KnowEachOther}
use Rattle.hem_crew.specs.Knowing.{KnowAll, KnowNoMore, OnChannels}

-- two lists that begin with each other are the same
same-lists : (xs ys : List Carried) → IsPrefix xs ys → IsPrefix ys xs → xs ≡ ys
same-lists xs ys one two =
    let a = ap length one.1 in
    let b = ap length two.1 in
    let longer = length-append xs one.0 in
    let back = length-append ys two.0 in
    let none : one.0 ≡ [] = is_empty one.0 (omega (arith, a, b, longer, back)) in
    sym (append-nil xs) ∙ ap (λ rest. xs ++ rest) (sym none) ∙ one.1

-- ends that know all and no more know each other
know-exactly : (giving : Giving) (getting : Getting) → KnowAll giving getting → KnowNoMore giving getting → KnowEachOther giving getting
know-exactly giving getting all more =
    let same : all.waiting ≡ more.waiting = append_cancel_left getting.received all.waiting more.waiting (sym all.all ∙ more.all) in
    let known : getting.known ≡ all.waiting = same-lists getting.known all.waiting (subst (λ rest. IsPrefix getting.known rest) (sym same) more.known) all.known in
    record {
      all = all.all ∙ ap (λ rest. getting.received ++ rest) (sym known);
      exact = (let least = all.slots in let most = more.slots in let here = ap length known in let there = ap length same in omega (arith, least, most, here, there));
    }

-- the same of ends that may not be there
up-exactly : (end : Option Giving) (getting : Getting) → IfThere (λ giving. KnowAll giving getting) end → IfThere (λ giving. KnowNoMore giving getting) end → IfThere (λ giving. KnowEachOther giving getting) end
up-exactly None getting all more = tt
up-exactly (Some giving) getting all more = know-exactly giving getting all more

down-exactly : (giving : Giving) (end : Option Getting) → IfThere (λ getting. KnowAll giving getting) end → IfThere (λ getting. KnowNoMore giving getting) end → IfThere (λ getting. KnowEachOther giving getting) end
down-exactly giving None all more = tt
down-exactly giving (Some getting) all more = know-exactly giving getting all more

-- and of an edge's three channels
pub channels-exactly : (kid : Kid) (low : Ends) → OnChannels KnowAll kid low → OnChannels KnowNoMore kid low → OnChannels KnowEachOther kid low
channels-exactly kid low all more =
    record {
      requests = up-exactly low.up_requests kid.requests all.requests more.requests;
      responses = up-exactly low.up_responses kid.responses all.responses more.responses;
      down = down-exactly kid.down low.down all.down more.down;
    }
