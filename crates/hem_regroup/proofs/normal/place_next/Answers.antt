use Rattle.std.proofs.Common.{◌<◌, length, get_or, arith, rules}
use Rattle.std.specs.Prelude.{Result, OnOk, Ok, Err}
use Rattle.hem_regroup.proofs.AtPlaces.{each_there}
use Rattle.hem_regroup.proofs.Placing.{placing_next}
use Rattle.hem_regroup.proofs.normal.place_next.Goals as goal

pub bounds-anchors-x : goal.bounds-anchors-x
bounds-anchors-x c = let below = each_there (λ x. x.number < length c.args.anchors.now) c.args.all.now c.args.place c.at-x.result c.at-x.ensures c.requires.below in omega (arith, below)

pub offset_bounds-anchors-x : goal.offset_bounds-anchors-x
offset_bounds-anchors-x c =
    let below = each_there (λ x. x.number < length c.args.anchors.now) c.args.all.now c.args.place c.at-x.result c.at-x.ensures c.requires.below in
    let within : c.at-x.result.number < length c.args.anchors.now = below in
    search (rules, within)

pub place_one-requires : goal.place_one-requires
place_one-requires c = let below = each_there (λ x. x.number < length c.args.anchors.now) c.args.all.now c.args.place c.at-x.result c.at-x.ensures c.requires.below in omega (arith, below, c.requires.size)

-- what follows from three facts of an Ok
on_ok_three : {T E A B C D : Type 0} (r : Result T E) → OnOk r A → OnOk r B → OnOk r C → (A → B → C → D) → OnOk r D
on_ok_three (Ok x) a b c then = then a b c
on_ok_three (Err e) a b c then = tt

pub returns-clause-placing : goal.returns-clause-placing
returns-clause-placing c =
    let all = c.args.all.now in
    let x = c.at-x.result in
    let below = each_there (λ x. x.number < length c.args.anchors.now) all c.args.place x c.at-x.ensures c.requires.below in
    let at = c.requires.anchors x.number below in
    let one = c.place_one.ensures in
    on_ok_three c.place_one.result one.members one.there one.others
    (λ pushed there others.
    placing_next all c.args.place (get_or c.args.anchors.now x.number 0) x c.args.members.now.items c.place_one.new.members.items c.args.held.now c.place_one.new.held c.at-x.ensures c.requires.placing at pushed there others)
