use Rattle.std.proofs.Common.{◌≡◌, ◌-◌, ◌≤◌, length, arith, ap, drop, take, sym, ◌∙◌}
use Rattle.std.specs.Prelude.{reverse}
use Rattle.std.proofs.lemmas.List.{length-reverse}
use Rattle.hem_text.proofs.Reversed.{reverse-take}
use Rattle.hem_text.proofs.stack.Stack.pass.Goals as goal

pub returns : goal.returns
returns g c =
    let xs = c.self.inside.items.items in
    let len : length xs ≡ length c.args.self.now = sym (length-reverse xs) ∙ ap length c.self.view_is in
    let le : c.args.count ≤ length xs = omega (arith, c.requires) in
    ap reverse (c.truncate.ensures.items ∙ ap (λ n. take (n - c.args.count) xs) (c.len.ensures ∙ c.self.inside.items.ok.0)) ∙ reverse-take c.args.count xs le ∙ ap (drop c.args.count) c.self.view_is
