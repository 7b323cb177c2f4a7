-- The potential of a line after a firing, by the weight of what the firing takes and sends.
use Rattle.std.proofs.Common.{◌≡◌, refl, ap, sym, ◌∙◌, ℕ, ◌+◌, ◌*◌, ◌≤◌, add-mul, length, Bool, true, false, ◌&&◌, cond, List, [], arith, Option, Some, None, zero-add}
use Rattle.std.specs.Prelude.{◌==◌, slice_get, option_map}
use Rattle.std.specs.Option.{option_map_or}
use Rattle.std.proofs.lemmas.Bool.{eqb-true}
use Rattle.hem_base.specs.declared.ids.Firing.{Firing}
use Rattle.hem_base.specs.declared.ids.Message.{Message}
use Rattle.hem_object.specs.declared.state.Lock.{Lock}
use Rattle.hem_syntax.specs.Protocol.{Protocol}
use Rattle.hem_object.specs.Local.{Local}
use Rattle.hem_template.specs.Template.{row_of}
use Rattle.hem_template.specs.declared.row.Taking.{Taking}
use Rattle.hem_template.specs.declared.row.Taking.TheVariants.{NothingTaken, FromRequester, ParentRequest, ParentResponse, FromKids}
use Rattle.hem_fire.specs.Heads.{Heads}
use Rattle.hem_tree.specs.Tree.{Tree, is_child}
use Rattle.hem_system.specs.declared.lane.Lane.{Lane}
use Rattle.hem_system.specs.declared.lane.Lane.TheVariants.{UpRequests, Down}
use Rattle.hem_system.specs.State.{Cell, Line, Effect, list_of, head_at, heads_of, local_at, takes, reaches, cell_after, line_after}
use Rattle.hem_rows.specs.Acts.{IsThere, takes_parent, AreHeads}
use Rattle.hem_locks.specs.Acted.{IsActed}
use Rattle.hem_locks.specs.Edges.{one_if}
use Rattle.hem_rows.proofs.Choices.{both}
use Rattle.hem_locks.proofs.Counts.{changed, length-changed}
use Rattle.hem_locks.proofs.Places.{named_head}
use Rattle.hem_locks.proofs.Lines.{head_of, me_there}
use Rattle.hem_bound.specs.Sums.{total}
use Rattle.hem_bound.specs.Potential.{up_weight, down_weight, lock_weight, cell_potential, potential}
use Rattle.hem_system.proofs.Own.{slice_get-map_each}
use Rattle.hem_tree.proofs.Lawful.{get_within}
use Rattle.hem_bound.proofs.Sums.{total_adds, total_same_below, total_at_most}

-- the weight of a list after a firing
weighed : (takes sends : Bool) (m : Message) (ms : List Message) (w : ℕ) → (takes ≡ true → IsThere (slice_get ms 0)) → length (changed takes sends m ms) * w + cond takes w 0 ≡ length ms * w + cond sends w 0
weighed takes sends m ms w there =
    let now = length (changed takes sends m ms) in
    let lengths : (now + one_if takes) * w ≡ (length ms + one_if sends) * w = ap (λ x. x * w) (length-changed takes sends m ms there) in
    omega (arith, lengths, add-mul now (one_if takes) w, add-mul (length ms) (one_if sends) w, one takes, one sends)
  where
    one : (b : Bool) → one_if b * w ≡ cond b w 0
    one true = omega arith
    one false = omega arith

-- the weight of what a firing takes from and sends to the edge of an object
abbrev pub up_taken : Tree → Firing → Effect → ℕ → ℕ
up_taken tree f e k = cond (takes tree f e.outs k UpRequests) (up_weight tree k) 0

abbrev pub down_taken : Tree → Firing → Effect → ℕ → ℕ
down_taken tree f e k = cond (takes tree f e.outs k Down) (down_weight tree k) 0

abbrev pub up_sent : Tree → Firing → Effect → ℕ → ℕ
up_sent tree f e k = cond (reaches tree f e.outs.to k UpRequests) (up_weight tree k) 0

abbrev pub down_sent : Tree → Firing → Effect → ℕ → ℕ
down_sent tree f e k = cond (reaches tree f e.outs.to k Down) (down_weight tree k) 0

-- the weight of a downlock at the object that fires
abbrev pub lock_there : Tree → Firing → Option Lock → ℕ → ℕ
lock_there tree f lock k = cond (k == f.object.0) (lock_weight tree k lock) 0

-- the potential of an object after a firing
cell_moved : (tree : Tree) (f : Firing) (e : Effect) (k : ℕ) (cell : Cell) (local : Local) → (takes tree f e.outs k UpRequests ≡ true → IsThere (slice_get cell.up_requests 0)) → (takes tree f e.outs k Down ≡ true → IsThere (slice_get cell.down 0)) → ((k == f.object.0) ≡ true → local ≡ cell.local) → cell_potential tree k (cell_after tree f e k cell) + (up_taken tree f e k + down_taken tree f e k + lock_there tree f local.down k) ≡ cell_potential tree k cell + (up_sent tree f e k + down_sent tree f e k + lock_there tree f e.after.down k)
cell_moved tree f e k cell local up_there down_there own =
    let ups = weighed (takes tree f e.outs k UpRequests) (reaches tree f e.outs.to k UpRequests) e.outs.message cell.up_requests (up_weight tree k) up_there in
    let downs = weighed (takes tree f e.outs k Down) (reaches tree f e.outs.to k Down) e.outs.message cell.down (down_weight tree k) down_there in
    omega (arith, ups, downs, locks (k == f.object.0) own)
  where
    locks : (b : Bool) → (b ≡ true → local ≡ cell.local) → lock_weight tree k (cond b e.after cell.local).down + cond b (lock_weight tree k local.down) 0 ≡ lock_weight tree k cell.local.down + cond b (lock_weight tree k e.after.down) 0
    locks true own = let same = ap (λ (l : Local). lock_weight tree k l.down) (own refl) in omega (arith, same)
    locks false own = refl

-- the parent's message is there where it is taken
parent_there : (p : Protocol) (taking : Taking) (local : Local) (heads : Heads) → takes_parent taking ≡ true → AreHeads p taking local heads → IsThere heads.parent
parent_there p ParentRequest local heads takes there = (there.0, there.1)
parent_there p ParentResponse local heads takes there = (there.0, there.1)
parent_there p NothingTaken local heads takes there = cc
parent_there p FromRequester local heads takes there = cc
parent_there p FromKids local heads takes there = cc

module _ (p : Protocol) (tree : Tree) (line : Line) (f : Firing) (e : Effect) (it : IsActed p tree line f e) where
  -- what is taken is there
  up_head : (k : ℕ) → takes tree f e.outs k UpRequests ≡ true → IsThere (head_at line k UpRequests)
  up_head k taken =
      let parts = both (e.outs.taken_request && option_map_or (λ child. child.0 == k) f.me false) (is_child tree k f.object.0) taken in
      let named = both e.outs.taken_request (option_map_or (λ child. child.0 == k) f.me false) parts.0 in
      let there = me_there p (row_of it.template).taking it.local (heads_of tree line f.object.0 f.me) (sym it.acts.taken_request ∙ named.0) it.acts.there in
      (there.0, sym (named_head line f.object.0 k f.me named.1) ∙ there.1)

  down_head : (k : ℕ) → takes tree f e.outs k Down ≡ true → IsThere (head_at line k Down)
  down_head k taken =
      let parts = both e.outs.taken_parent (k == f.object.0) taken in
      let there = parent_there p (row_of it.template).taking it.local (heads_of tree line f.object.0 f.me) (sym it.acts.taken_parent ∙ parts.0) it.acts.there in
      (there.0, ap (λ n. head_at line n Down) (eqb-true k f.object.0 parts.1) ∙ there.1)

  -- nothing is taken where there is no object
  pub nothing_at : (k : ℕ) (lane : Lane) → slice_get line k ≡ None → IsThere (head_at line k lane) → ⊥
  nothing_at k lane none there =
      let empty : head_at line k lane ≡ None = ap (λ (c : Option Cell). slice_get (option_map_or (λ cell. list_of cell lane) c []) 0) none in
      let both = sym empty ∙ there.1 in
      cc

  no_local : (k : ℕ) → slice_get line k ≡ None → (k == f.object.0) ≡ true → ⊥
  no_local k none own =
      let empty : local_at line k ≡ None = ap (option_map (λ (c : Cell). c.local)) none in
      let both = sym empty ∙ ap (local_at line) (eqb-true k f.object.0 own) ∙ it.there in
      cc

  own_local : (k : ℕ) (cell : Cell) → slice_get line k ≡ Some cell → (k == f.object.0) ≡ true → it.local ≡ cell.local
  own_local k cell at own =
      let there : local_at line k ≡ Some cell.local = ap (option_map (λ (c : Cell). c.local)) at in
      let both : Some it.local ≡ Some cell.local = sym it.there ∙ sym (ap (local_at line) (eqb-true k f.object.0 own)) ∙ there in
      cc

  abbrev taken_at : ℕ → ℕ
  taken_at k = up_taken tree f e k + down_taken tree f e k + lock_there tree f it.local.down k

  abbrev sent_at : ℕ → ℕ
  sent_at k = up_sent tree f e k + down_sent tree f e k + lock_there tree f e.after.down k

  abbrev potential_at : Line → ℕ → ℕ
  potential_at l k = option_map_or (cell_potential tree k) (slice_get l k) 0

  after_at : (k : ℕ) → slice_get (line_after tree f e line) k ≡ option_map (cell_after tree f e (0 + k)) (slice_get line k)
  after_at k = slice_get-map_each (cell_after tree f e) 0 line k

  -- the potential of an object that is there, after a firing
  object_moved : (k : ℕ) (cell : Cell) → slice_get line k ≡ Some cell → potential_at (line_after tree f e line) k + taken_at k ≡ potential_at line k + sent_at k
  object_moved k cell at =
      let now : potential_at (line_after tree f e line) k ≡ cell_potential tree k (cell_after tree f e k cell) = ap (λ (c : Option Cell). option_map_or (cell_potential tree k) c 0) (after_at k ∙ ap (option_map (cell_after tree f e (0 + k))) at) ∙ ap (λ n. cell_potential tree k (cell_after tree f e n cell)) (zero-add k) in
      let old : potential_at line k ≡ cell_potential tree k cell = ap (λ (c : Option Cell). option_map_or (cell_potential tree k) c 0) at in
      let moved = cell_moved tree f e k cell it.local
      (λ taken. let there = up_head k taken in (there.0, sym (head_of line k cell UpRequests at) ∙ there.1))
      (λ taken. let there = down_head k taken in (there.0, sym (head_of line k cell Down at) ∙ there.1))
      (own_local k cell at) in
      omega (arith, now, old, moved)

  -- and at each place of the line
  place_moved : (k : ℕ) → potential_at (line_after tree f e line) k + taken_at k ≤ potential_at line k + sent_at k
  place_moved k = by_cell (slice_get line k) refl
    where
      by_cell : (c : Option Cell) → slice_get line k ≡ c → potential_at (line_after tree f e line) k + taken_at k ≤ potential_at line k + sent_at k
      by_cell None none =
          let gone : potential_at (line_after tree f e line) k ≡ 0 = ap (λ (c : Option Cell). option_map_or (cell_potential tree k) c 0) (after_at k ∙ ap (option_map (cell_after tree f e (0 + k))) none) in
          omega (
            arith,
            gone,
            untaken (takes tree f e.outs k UpRequests) (up_weight tree k) (λ taken. nothing_at k UpRequests none (up_head k taken)),
            untaken (takes tree f e.outs k Down) (down_weight tree k) (λ taken. nothing_at k Down none (down_head k taken)),
            untaken (k == f.object.0) (lock_weight tree k it.local.down) (no_local k none),
          )
        where
          untaken : (b : Bool) (w : ℕ) → (b ≡ true → ⊥) → cond b w 0 ≡ 0
          untaken true w never = absurd (never refl)
          untaken false w never = refl
      by_cell (Some cell) at = omega (arith, object_moved k cell at)

  -- what is taken and what is sent, together
  abbrev all_taken : ℕ
  all_taken = total (length tree) (up_taken tree f e) + total (length tree) (down_taken tree f e) + total (length tree) (lock_there tree f it.local.down)

  abbrev all_sent : ℕ
  all_sent = total (length tree) (up_sent tree f e) + total (length tree) (down_sent tree f e) + total (length tree) (lock_there tree f e.after.down)

  taken_parts : total (length tree) taken_at ≡ all_taken
  taken_parts = omega (arith, total_adds (length tree) (λ k. up_taken tree f e k + down_taken tree f e k) (lock_there tree f it.local.down), total_adds (length tree) (up_taken tree f e) (down_taken tree f e))

  sent_parts : total (length tree) sent_at ≡ all_sent
  sent_parts = omega (arith, total_adds (length tree) (λ k. up_sent tree f e k + down_sent tree f e k) (lock_there tree f e.after.down), total_adds (length tree) (up_sent tree f e) (down_sent tree f e))

  -- the potential of a line after a firing
  pub line_moved : potential tree (line_after tree f e line) + all_taken ≤ potential tree line + all_sent
  line_moved =
      let n = length tree in
      let most = total_at_most n (λ k. potential_at (line_after tree f e line) k + taken_at k) (λ k. potential_at line k + sent_at k) place_moved in
      omega (arith, most, total_adds n (potential_at (line_after tree f e line)) taken_at, total_adds n (potential_at line) sent_at, taken_parts, sent_parts)

  -- and exactly, where the line has a cell for each object
  pub line_moved_whole : length line ≡ length tree → potential tree (line_after tree f e line) + all_taken ≡ potential tree line + all_sent
  line_moved_whole size =
      let n = length tree in
      let same = total_same_below n (λ k. potential_at (line_after tree f e line) k + taken_at k) (λ k. potential_at line k + sent_at k) (λ k inside. let cell = get_within line k (omega (arith, size, inside)) in object_moved k cell.0 cell.1) in
      omega (arith, same, total_adds n (potential_at (line_after tree f e line)) taken_at, total_adds n (potential_at line) sent_at, taken_parts, sent_parts)
