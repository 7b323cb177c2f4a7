-- What a firing needs of the locks and the parent's list, by what it takes.
use Rattle.std.proofs.Common.{◌≡◌, ℕ, true, subst, Some, None, inl, inr, ◌⊎◌}
use Rattle.hem_base.specs.declared.ids.Kind.{Kind}
use Rattle.hem_base.specs.declared.ids.Firing.{Firing}
use Rattle.hem_base.specs.declared.ids.Message.{Message}
use Rattle.hem_syntax.specs.declared.rule.Rule.{Rule}
use Rattle.hem_template.specs.declared.template_name.TemplateName.{TemplateName}
use Rattle.hem_template.specs.declared.template_name.TemplateName.TheVariants.{ImmSelf, ImmDown, ImmUp, RqUp, RqUpSelf, RqUpDown, RqDownSelf, RqDownDown, RsDown, RsDownSelf, RsDownRqDown}
use Rattle.hem_syntax.specs.Protocol.{Protocol}
use Rattle.hem_object.specs.Local.{Local}
use Rattle.hem_tree.specs.Tree.{Tree, parent_of}
use Rattle.hem_fire.specs.declared.outs.Outs.{Outs}
use Rattle.hem_system.specs.declared.lane.Lane.TheVariants.{Down}
use Rattle.hem_system.specs.State.{Line, head_at}
use Rattle.hem_rows.specs.Acts.{is_down_request}
use Rattle.hem_shape.specs.Progress.{Asker, child, processor, parent, itself}
use Rattle.hem_shape.specs.Move.{request, parent_answer, Giving, answer, ask_up, ask_down, template_name}
use Rattle.hem_numbered.specs.Firings.{IsFiring}
use Rattle.hem_numbered.proofs.From.{parent_above}

-- the parent's request is the first of its messages
pub record HasRequest (p : Protocol) (tree : Tree) (line : Line) (o : ℕ) : Type 0 where
  pub high : ℕ
  pub above : parent_of tree o ≡ Some high
  pub message : Message
  pub first : head_at line o Down ≡ Some message
  pub is : is_down_request p message ≡ true

-- a firing that takes a request needs the downlock free, and the uplock free but for the parent's request
pub record RequestNeeds (p : Protocol) (tree : Tree) (line : Line) (o : ℕ) (before : Local) : Type 0 where
  pub down : before.down ≡ None
  pub up : (before.up ≡ None) ⊎ HasRequest p tree line o

pub request_needs : (p : Protocol) (tree : Tree) (f : Firing) (t : TemplateName) (kind : Kind) (rule : Rule) (before after : Local) (outs : Outs) (old new : Line) (asker : Asker) (gives : Giving) → IsFiring p tree f t kind rule before after outs old new → template_name request asker gives ≡ Some t → RequestNeeds p tree old f.object.0 before
request_needs p tree f t kind rule before after outs old new asker gives c named = by_name asker gives t named c
  where
    by_up : (c : IsFiring p tree f ImmUp kind rule before after outs old new) → RequestNeeds p tree old f.object.0 before
    by_up c =
        let above = parent_above tree f.object.0 kind rule c.row.taking.0 c.lawful c.kind_is c.row.level c.row.taking.1 in
        let acts = c.acts in
        record { down = acts.down_before; up = inr (record { high = above.0; above = above.1; message = acts.there.0; first = acts.there.1; is = acts.there.2 }) }

    by_down : (c : IsFiring p tree f RqDownDown kind rule before after outs old new) → RequestNeeds p tree old f.object.0 before
    by_down c =
        let above = parent_above tree f.object.0 kind rule c.row.taking.0 c.lawful c.kind_is c.row.level c.row.taking.1 in
        let acts = c.acts in
        record { down = acts.down_before; up = inr (record { high = above.0; above = above.1; message = acts.there.0; first = acts.there.1; is = acts.there.2 }) }

    by_template : (t : TemplateName) → (t ≡ ImmSelf) ⊎ ((t ≡ ImmDown) ⊎ ((t ≡ RqUp) ⊎ ((t ≡ RqUpSelf) ⊎ ((t ≡ RqUpDown) ⊎ (t ≡ RqDownSelf))))) → IsFiring p tree f t kind rule before after outs old new → RequestNeeds p tree old f.object.0 before
    by_template t (inl is) c = let acts = (subst (λ t. IsFiring p tree f t kind rule before after outs old new) is c).acts in record { down = acts.down_before; up = inl acts.up_before }
    by_template t (inr (inl is)) c = let acts = (subst (λ t. IsFiring p tree f t kind rule before after outs old new) is c).acts in record { down = acts.down_before; up = inl acts.up_before }
    by_template t (inr (inr (inl is))) c = let acts = (subst (λ t. IsFiring p tree f t kind rule before after outs old new) is c).acts in record { down = acts.down_before; up = inl acts.up_before }
    by_template t (inr (inr (inr (inl is)))) c = let acts = (subst (λ t. IsFiring p tree f t kind rule before after outs old new) is c).acts in record { down = acts.down_before; up = inl acts.up_before }
    by_template t (inr (inr (inr (inr (inl is))))) c = let acts = (subst (λ t. IsFiring p tree f t kind rule before after outs old new) is c).acts in record { down = acts.down_before; up = inl acts.up_before }
    by_template t (inr (inr (inr (inr (inr is))))) c = let acts = (subst (λ t. IsFiring p tree f t kind rule before after outs old new) is c).acts in record { down = acts.down_before; up = inl acts.up_before }

    by_name : (asker : Asker) (gives : Giving) (t : TemplateName) → template_name request asker gives ≡ Some t → IsFiring p tree f t kind rule before after outs old new → RequestNeeds p tree old f.object.0 before
    by_name itself answer t named c = by_template t (inl (let is : t ≡ ImmSelf = cc in is)) c
    by_name (child k) answer t named c = by_template t (inr (inl (let is : t ≡ ImmDown = cc in is))) c
    by_name processor answer t named c = by_template t (inr (inl (let is : t ≡ ImmDown = cc in is))) c
    by_name parent answer t named c = by_up (subst (λ t. IsFiring p tree f t kind rule before after outs old new) (let is : t ≡ ImmUp = cc in is) c)
    by_name (child k) ask_up t named c = by_template t (inr (inr (inl (let is : t ≡ RqUp = cc in is)))) c
    by_name processor ask_up t named c = by_template t (inr (inr (inl (let is : t ≡ RqUp = cc in is)))) c
    by_name itself ask_up t named c = by_template t (inr (inr (inr (inl (let is : t ≡ RqUpSelf = cc in is))))) c
    by_name (child k) (ask_down targets) t named c = by_template t (inr (inr (inr (inr (inl (let is : t ≡ RqUpDown = cc in is)))))) c
    by_name processor (ask_down targets) t named c = by_template t (inr (inr (inr (inr (inl (let is : t ≡ RqUpDown = cc in is)))))) c
    by_name itself (ask_down targets) t named c = by_template t (inr (inr (inr (inr (inr (let is : t ≡ RqDownSelf = cc in is)))))) c
    by_name parent (ask_down targets) t named c = by_down (subst (λ t. IsFiring p tree f t kind rule before after outs old new) (let is : t ≡ RqDownDown = cc in is) c)
    by_name parent ask_up t named c = absurd (let bad : None ≡ Some t = named in cc)

-- a firing that takes the parent's answer needs the downlock free
pub answer_needs : (p : Protocol) (tree : Tree) (f : Firing) (t : TemplateName) (kind : Kind) (rule : Rule) (before after : Local) (outs : Outs) (old new : Line) (asker : Asker) (gives : Giving) → IsFiring p tree f t kind rule before after outs old new → template_name parent_answer asker gives ≡ Some t → before.down ≡ None
answer_needs p tree f t kind rule before after outs old new asker gives c named = by_name asker gives t named c
  where
    by_template : (t : TemplateName) → (t ≡ RsDown) ⊎ ((t ≡ RsDownSelf) ⊎ (t ≡ RsDownRqDown)) → IsFiring p tree f t kind rule before after outs old new → before.down ≡ None
    by_template t (inl is) c = (subst (λ t. IsFiring p tree f t kind rule before after outs old new) is c).acts.down_before
    by_template t (inr (inl is)) c = (subst (λ t. IsFiring p tree f t kind rule before after outs old new) is c).acts.down_before
    by_template t (inr (inr is)) c = (subst (λ t. IsFiring p tree f t kind rule before after outs old new) is c).acts.down_before

    by_name : (asker : Asker) (gives : Giving) (t : TemplateName) → template_name parent_answer asker gives ≡ Some t → IsFiring p tree f t kind rule before after outs old new → before.down ≡ None
    by_name (child k) answer t named c = by_template t (inl (let is : t ≡ RsDown = cc in is)) c
    by_name processor answer t named c = by_template t (inl (let is : t ≡ RsDown = cc in is)) c
    by_name itself answer t named c = by_template t (inr (inl (let is : t ≡ RsDownSelf = cc in is))) c
    by_name (child k) (ask_down targets) t named c = by_template t (inr (inr (let is : t ≡ RsDownRqDown = cc in is))) c
    by_name processor (ask_down targets) t named c = by_template t (inr (inr (let is : t ≡ RsDownRqDown = cc in is))) c
    by_name _ _ t named c = absurd (let bad : None ≡ Some t = named in cc)
