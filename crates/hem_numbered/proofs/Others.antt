-- A firing leaves the other transactions where they stand.
use Rattle.std.proofs.Common.{◌≡◌, ◌≢◌, ℕ, Bool, true, false, cond, [], ◌∷◌, ◌++◌, length, drop, refl, sym, ap, ◌∙◌, subst, arith, Option, Some, None, ⊎_elim, inl, inr}
use Rattle.std.specs.Prelude.{◌==◌, slice_get, option_and_then}
use Rattle.hem_base.specs.declared.ids.Message.{Message}
use Rattle.hem_base.specs.declared.ids.Firing.{Firing}
use Rattle.hem_template.specs.declared.template_name.TemplateName.{TemplateName}
use Rattle.hem_object.specs.declared.state.Lock.{Lock}
use Rattle.hem_syntax.specs.Protocol.{Protocol}
use Rattle.hem_object.specs.Local.{Local}
use Rattle.hem_tree.specs.Tree.{Tree}
use Rattle.hem_fire.specs.declared.outs.Outs.{Outs}
use Rattle.hem_system.specs.declared.lane.Lane.{Lane}
use Rattle.hem_system.specs.declared.lane.Lane.TheVariants.{UpRequests, UpResponses, Down, Requests}
use Rattle.hem_system.specs.State.{Line, list_at, takes, reaches, list_after}
use Rattle.hem_rows.specs.Acts.{is_down_request, is_down_response}
use Rattle.hem_shape.specs.Progress.{set_at}
use Rattle.hem_shape.proofs.Spots.{same_or_other, set_here, set_there}
use Rattle.hem_numbered.specs.Numbers.{Numbers, lock_number, numbers_after, carries, is_any, held_for, uplock_at, downlock_at, progress_of}
use Rattle.hem_numbered.specs.Firings.{Leads, ChangesOnce, IsNumbered}
use Rattle.hem_numbered.proofs.Alike.{same_progress}
use Rattle.hem_numbered.proofs.Carried.{carries_other}

-- a lock, for another transaction
lock_other : (tree : Tree) (o x n old : ℕ) (before after : Option Lock) → x ≢ n → ChangesOnce before after → ((lock : Lock) → before ≡ Some lock → after ≡ None → old ≡ n) → held_for tree o x (lock_number before n old) after ≡ held_for tree o x old before
lock_other tree o x n old None None other once frees = refl
lock_other tree o x n old None (Some lock) other once frees = let is : (n == x) ≡ false = grind arith in rw is refl
lock_other tree o x n old (Some lock) None other once frees = let is : (old == x) ≡ false = (let same = frees lock refl refl in grind arith) in sym (rw is refl)
lock_other tree o x n old (Some lock) (Some new) other (inl same) frees = ap (λ l. held_for tree o x old l) same
lock_other tree o x n old (Some lock) (Some new) other (inr (inl none)) frees = absurd (let bad : Some lock ≡ None = none in cc)
lock_other tree o x n old (Some lock) (Some new) other (inr (inr none)) frees = absurd (let bad : Some new ≡ None = none in cc)

-- a list, for another transaction
list_other : (test : Message → Bool) (tree : Tree) (f : Firing) (outs : Outs) (old new : Line) (numbers : Numbers) (x n k : ℕ) (lane : Lane) → list_at new k lane ≡ list_after tree f outs k lane (list_at old k lane) → length (numbers.lists k lane) ≡ length (list_at old k lane) → x ≢ n → (takes tree f outs k lane ≡ true → slice_get (numbers.lists k lane) 0 ≡ Some n) → carries test x (list_at new k lane) (drop (cond (takes tree f outs k lane) 1 0) (numbers.lists k lane) ++ cond (reaches tree f outs.to k lane) (n ∷ []) []) ≡ carries test x (list_at old k lane) (numbers.lists k lane)
list_other test tree f outs old new numbers x n k lane leads same other head =
    ap (λ ms. carries test x ms (drop (cond (takes tree f outs k lane) 1 0) (numbers.lists k lane) ++ cond (reaches tree f outs.to k lane) (n ∷ []) [])) leads
    ∙ carries_other test x n (takes tree f outs k lane) (reaches tree f outs.to k lane) outs.message (list_at old k lane) (numbers.lists k lane) same other head

pub progress_other : (p : Protocol) (tree : Tree) (f : Firing) (outs : Outs) (before after : Local) (old new : Line) (numbers : Numbers) (n : ℕ) (t : TemplateName) (x : ℕ) → Leads tree f outs before after old new → ((k : ℕ) (lane : Lane) → lane ≢ Requests → length (numbers.lists k lane) ≡ length (list_at old k lane)) → IsNumbered tree f outs before after numbers n → x ≢ n → progress_of p tree new (numbers_after tree f outs before n t numbers) x ≡ progress_of p tree old numbers x
progress_other p tree f outs before after old new numbers n t x leads same numbered other =
    same_progress (progress_of p tree new (numbers_after tree f outs before n t numbers) x) (progress_of p tree old numbers x)
    (λ k. list_other is_any tree f outs old new numbers x n k UpRequests (leads.lists k UpRequests) (same k UpRequests (λ is. cc)) other (numbered.takes k UpRequests (λ is. cc)))
    (λ k. list_other is_any tree f outs old new numbers x n k UpResponses (leads.lists k UpResponses) (same k UpResponses (λ is. cc)) other (numbered.takes k UpResponses (λ is. cc)))
    (λ k. list_other (is_down_request p) tree f outs old new numbers x n k Down (leads.lists k Down) (same k Down (λ is. cc)) other (numbered.takes k Down (λ is. cc)))
    (λ k. list_other (is_down_response p) tree f outs old new numbers x n k Down (leads.lists k Down) (same k Down (λ is. cc)) other (numbered.takes k Down (λ is. cc)))
    (λ k. up k)
    (λ k. down k)
    (λ k. ap (λ fired. fired k) (set_there n (set_at f.object.0 (numbers.fired n f.object.0 ++ t ∷ []) (numbers.fired n)) numbers.fired x other))
  where
    up : (k : ℕ) → held_for tree k x (set_at f.object.0 (lock_number before.up n (numbers.up f.object.0)) numbers.up k) (uplock_at new k) ≡ held_for tree k x (numbers.up k) (uplock_at old k)
    up k =
        ⊎_elim
        (λ here. subst (λ k. held_for tree k x (set_at f.object.0 (lock_number before.up n (numbers.up f.object.0)) numbers.up k) (uplock_at new k) ≡ held_for tree k x (numbers.up k) (uplock_at old k)) (sym here)
        (ap (λ a. held_for tree f.object.0 x a (uplock_at new f.object.0)) (set_here f.object.0 (lock_number before.up n (numbers.up f.object.0)) numbers.up f.object.0 refl)
        ∙ ap (λ l. held_for tree f.object.0 x (lock_number before.up n (numbers.up f.object.0)) (option_and_then (λ l. l.up) l)) leads.now
        ∙ lock_other tree f.object.0 x n (numbers.up f.object.0) before.up after.up other numbered.up numbered.frees_up
        ∙ sym (ap (λ l. held_for tree f.object.0 x (numbers.up f.object.0) (option_and_then (λ l. l.up) l)) leads.here)))
        (λ there.
        ap (λ a. held_for tree k x a (uplock_at new k)) (set_there f.object.0 (lock_number before.up n (numbers.up f.object.0)) numbers.up k there)
        ∙ ap (λ l. held_for tree k x (numbers.up k) (option_and_then (λ l. l.up) l)) (leads.others k there))
        (same_or_other k f.object.0)

    down : (k : ℕ) → held_for tree k x (set_at f.object.0 (lock_number before.down n (numbers.down f.object.0)) numbers.down k) (downlock_at new k) ≡ held_for tree k x (numbers.down k) (downlock_at old k)
    down k =
        ⊎_elim
        (λ here. subst (λ k. held_for tree k x (set_at f.object.0 (lock_number before.down n (numbers.down f.object.0)) numbers.down k) (downlock_at new k) ≡ held_for tree k x (numbers.down k) (downlock_at old k)) (sym here)
        (ap (λ a. held_for tree f.object.0 x a (downlock_at new f.object.0)) (set_here f.object.0 (lock_number before.down n (numbers.down f.object.0)) numbers.down f.object.0 refl)
        ∙ ap (λ l. held_for tree f.object.0 x (lock_number before.down n (numbers.down f.object.0)) (option_and_then (λ l. l.down) l)) leads.now
        ∙ lock_other tree f.object.0 x n (numbers.down f.object.0) before.down after.down other numbered.down numbered.frees_down
        ∙ sym (ap (λ l. held_for tree f.object.0 x (numbers.down f.object.0) (option_and_then (λ l. l.down) l)) leads.here)))
        (λ there.
        ap (λ a. held_for tree k x a (downlock_at new k)) (set_there f.object.0 (lock_number before.down n (numbers.down f.object.0)) numbers.down k there)
        ∙ ap (λ l. held_for tree k x (numbers.down k) (option_and_then (λ l. l.down) l)) (leads.others k there))
        (same_or_other k f.object.0)
