use Rattle.std.proofs.Common.{◌≡◌, subst, length, arith, ap, refl}
use Rattle.std.proofs.lemmas.List.{length-map}
use Rattle.std.proofs.lemmas.Option.{slice_get_read}
use Rattle.hem_tree.specs.Objects.{IsObjectOf, node_of}
use Rattle.hem_tree.proofs.tree.Tree.object.Goals as goal

pub returns-clause-object : goal.returns-clause-object
returns-clause-object c =
    let long : length c.self.inside.objects ≡ length c.args.self.now = let e = ap length c.self.view_is in omega (arith, length-map c.self.inside.objects node_of) in
    subst (λ t. IsObjectOf t c.args.o.0 c.index-as_slice-o.result) c.self.view_is
    (c.self.invariant.each c.args.o.0 c.index-as_slice-o.result (slice_get_read c.self.inside.objects (length c.self.inside.objects) c.args.o.0 c.index-as_slice-o.result refl (omega (arith, c.requires)) (rw c.as_slice.ensures at c.index-as_slice-o.is)))
