use Rattle.std.proofs.Common.{◌∙◌, cond}
use Rattle.hem_system.specs.declared.lane.Lane.TheVariants.{UpRequests, UpResponses}
use Rattle.hem_translate.proofs.sends.parent_list.Goals as goal

pub returns : goal.returns
returns c = c.list_to_parent.ensures ∙ (λ i. record { object = c.object.ensures i; lane = cond (c.is_up_response.ensures i) UpResponses UpRequests })
