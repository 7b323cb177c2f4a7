-- The registers and queues that are there tell a line.
use Rattle.std.proofs.Common.{◌≡◌, ◌≢◌, inl, inr, ◌⊎◌, refl, ap, sym, ◌∙◌, ℕ, suc, ◌+◌, ◌^◌, ◌<◌, arith, Bool, true, false, cond, List, [], ◌∷◌, length, map, Option, Some, None}
use Rattle.std.specs.Prelude.{◌==◌, nat_lt, slice_get, option_map}
use Rattle.std.specs.List.{list_any}
use Rattle.std.specs.Option.{option_map_or}
use Rattle.std.specs.Int.{bit_at}
use Rattle.std.proofs.lemmas.Bool.Decides.{eqb_tells}
use Rattle.std.proofs.lemmas.Nat.Bits.{same_from_bits_below, bit_at-lt}
use Rattle.hem_base.specs.Sets.{has_bit}
use Rattle.hem_base.specs.declared.ids.Kind.{Kind}
use Rattle.hem_base.specs.declared.ids.Kind.TheVariants.{Root, Mid, Leaf}
use Rattle.hem_base.specs.declared.ids.KidSet.{KidSet}
use Rattle.hem_base.specs.declared.ids.Message.{Message}
use Rattle.hem_base.specs.declared.ids.Status8.{Status8}
use Rattle.hem_syntax.specs.declared.rule.Side.{Side}
use Rattle.hem_syntax.specs.declared.rule.Side.TheVariants.{Up, Down}
use Rattle.hem_syntax.specs.Protocol.{Protocol, part}
use Rattle.hem_object.specs.declared.state.By.{By}
use Rattle.hem_object.specs.declared.state.By.TheVariants.{Processor, Kid, Parent, Own}
use Rattle.hem_object.specs.declared.state.Lock.{Lock}
use Rattle.hem_object.specs.Local.{Local, IsWellFormed, IsOrigin, nobody}
use Rattle.hem_fire.specs.Heads.{awaited_of}
use Rattle.hem_tree.specs.Tree.{Tree, Node, IsLawful, kind_of, children_of}
use Rattle.hem_system.specs.declared.lane.Lane.{Lane}
use Rattle.hem_system.specs.declared.lane.Lane.TheVariants as lane
use Rattle.hem_system.specs.State.{Cell, Line, list_of, list_at, local_at}
use Rattle.hem_invariants.specs.Missing.{has_list}
use Rattle.hem_module.specs.Module.{Item}
use Rattle.hem_emit.specs.Names.{Part, origin, asked, kept, Reg, field, val, lock, entry, awaits, Queue, same_queue}
use Rattle.hem_emit.specs.Place.{kid_origin, origin_of}
use Rattle.hem_emit.specs.Layout.{queues_at}
use Rattle.hem_emit.specs.Image.{item_of, lock_at, lock_number, status_number, in_parent, image}
use Rattle.hem_emit.specs.Formed.{IsLine}
use Rattle.hem_emit.specs.Numbering.{has_reg, has_queue}
use Rattle.hem_emit.specs.Shows.{AreKids}
use Rattle.hem_emit.proofs.Tests.{same_number, at_below, below_at}
use Rattle.hem_emit.proofs.Places.{element_or, origin_child}
use Rattle.hem_emit.proofs.Shown.{own, kept_of_kid, are_kids}
use Rattle.hem_emit.proofs.Here.{queue_there, field_there, value_there, lock_there, entry_there, awaits_there}

-- lists with the same at each place
same_lists : {A : Type 0} (xs ys : List A) → length xs ≡ length ys → ((i : ℕ) (x y : A) → slice_get xs i ≡ Some x → slice_get ys i ≡ Some y → x ≡ y) → xs ≡ ys
same_lists [] [] count each = refl
same_lists [] (y ∷ ys) count each = absurd (omega (arith, count))
same_lists (x ∷ xs) [] count each = absurd (omega (arith, count))
same_lists (x ∷ xs) (y ∷ ys) count each =
    let head = each 0 x y refl refl in
    let tail = same_lists xs ys (omega (arith, count)) (λ i x y at_x at_y. each (suc i) x y at_x at_y) in
    cc

same_statuses : (xs ys : List Status8) → length xs ≡ length ys → ((i : ℕ) → i < length xs → status_number (slice_get xs i) ≡ status_number (slice_get ys i)) → xs ≡ ys
same_statuses xs ys count each = same_lists xs ys count by_place
  where
    by_place : (i : ℕ) (x y : Status8) → slice_get xs i ≡ Some x → slice_get ys i ≡ Some y → x ≡ y
    by_place i x y at_x at_y =
        let e = each i (below_at xs i x at_x) in
        let number : x.0 ≡ y.0 = sym (ap status_number at_x) ∙ e ∙ ap status_number at_y in
        ap (λ (n : ℕ). let s : Status8 = record { 0 = n } in s) number

-- a message is told by its item
same_items : (xs ys : List Message) → map item_of xs ≡ map item_of ys → xs ≡ ys
same_items [] [] same = refl
same_items [] (y ∷ ys) same = cc
same_items (x ∷ xs) [] same = cc
same_items (x ∷ xs) (y ∷ ys) same =
    let head : item_of x ≡ item_of y = cc in
    let rest : map item_of xs ≡ map item_of ys = cc in
    let id : x.id.0 ≡ y.id.0 = ap (λ (m : Item). m.id) head in
    let value : x.value ≡ y.value = ap (λ (m : Item). m.value) head in
    let message : x ≡ y = λ i. record { id = record { 0 = id i }; value = value i } in
    let tail = same_items xs ys rest in
    λ i. message i ∷ tail i

-- bits that are read as 1 and 0
abbrev as_number : Bool → ℕ
as_number b = cond b 1 0

bit_read : (b c : Bool) → as_number b ≡ as_number c → b ≡ c
bit_read true true same = refl
bit_read false false same = refl
bit_read true false same = absurd (omega (arith, same))
bit_read false true same = absurd (omega (arith, same))

one_bit : (x y : ℕ) → x < 2 → y < 2 → (x == 1) ≡ (y == 1) → x ≡ y
one_bit x y less_x less_y same = by_bits (eqb_tells x 1) (eqb_tells y 1)
  where
    by_bits : ((x == 1) ≡ true) × (x ≡ 1) ⊎ ((x == 1) ≡ false) × (x ≢ 1) → ((y == 1) ≡ true) × (y ≡ 1) ⊎ ((y == 1) ≡ false) × (y ≢ 1) → x ≡ y
    by_bits (inl one) (inl other) = one.1 ∙ sym other.1
    by_bits (inl one) (inr other) = let clash : true ≡ false = sym one.0 ∙ same ∙ other.0 in cc
    by_bits (inr one) (inl other) = let clash : true ≡ false = sym other.0 ∙ sym same ∙ one.0 in cc
    by_bits (inr one) (inr other) = let far_x = one.1 in let far_y = other.1 in omega (arith, less_x, less_y, far_x, far_y)

same_sets : (n : ℕ) (x y : KidSet) → x.0 < 2 ^ n → y.0 < 2 ^ n → ((k : ℕ) → k < n → has_bit x.0 k ≡ has_bit y.0 k) → x ≡ y
same_sets n x y less_x less_y each =
    let bits = same_from_bits_below n x.0 y.0 less_x less_y (λ k less. one_bit (bit_at x.0 k) (bit_at y.0 k) (bit_at-lt x.0 k) (bit_at-lt y.0 k) (each k less)) in
    ap (λ (n : ℕ). let s : KidSet = record { 0 = n } in s) bits

-- an origin is told by its number
module _ (kind : Kind) (kids : List ℕ) (are : AreKids kind kids) where
  kid_number : (c : ℕ) → c < length kids → (x : ℕ) × (slice_get kids c ≡ Some x) × (origin_of kids (Kid c) ≡ 3 + x) × (0 < x)
  kid_number c less = let it = at_below kids c less in (it.0, it.1, ap kid_origin (element_or kids c 0 it.0 it.1), are.above c it.0 it.1)

  no_kid : (n c : ℕ) → n < 4 → c < length kids → n ≡ origin_of kids (Kid c) → ⊥
  no_kid n c few less same = let it = kid_number c less in omega (arith, few, same, it.2, it.3)

  same_kids : (c d : ℕ) → c < length kids → d < length kids → origin_of kids (Kid c) ≡ origin_of kids (Kid d) → Kid c ≡ Kid d
  same_kids c d less_c less_d same =
      let x = kid_number c less_c in
      let y = kid_number d less_d in
      let number : x.0 ≡ y.0 = omega (arith, same, x.2, y.2) in
      ap Kid (are.apart c d x.0 x.1 (y.1 ∙ ap Some (sym number)))

  kid_less : (c : ℕ) → IsOrigin kind (length kids) (Kid c) → c < length kids
  kid_less c is = origin_child kind kids (Kid c) c is refl

  same_by : (a b : By) → IsOrigin kind (length kids) a → IsOrigin kind (length kids) b → origin_of kids a ≡ origin_of kids b → a ≡ b
  same_by Own Own is_a is_b same = refl
  same_by Parent Parent is_a is_b same = refl
  same_by Processor Processor is_a is_b same = refl
  same_by (Kid c) (Kid d) is_a is_b same = same_kids c d (kid_less c is_a) (kid_less d is_b) same
  same_by Own (Kid d) is_a is_b same = absurd (no_kid 1 d (omega arith) (kid_less d is_b) same)
  same_by Parent (Kid d) is_a is_b same = absurd (no_kid 2 d (omega arith) (kid_less d is_b) same)
  same_by Processor (Kid d) is_a is_b same = absurd (no_kid 3 d (omega arith) (kid_less d is_b) same)
  same_by (Kid c) Own is_a is_b same = absurd (no_kid 1 c (omega arith) (kid_less c is_a) (sym same))
  same_by (Kid c) Parent is_a is_b same = absurd (no_kid 2 c (omega arith) (kid_less c is_a) (sym same))
  same_by (Kid c) Processor is_a is_b same = absurd (no_kid 3 c (omega arith) (kid_less c is_a) (sym same))
  same_by Own Parent is_a is_b same = cc
  same_by Own Processor is_a is_b same = cc
  same_by Parent Own is_a is_b same = cc
  same_by Parent Processor is_a is_b same = cc
  same_by Processor Own is_a is_b same = cc
  same_by Processor Parent is_a is_b same = cc

  some_origin : (by : By) → IsOrigin kind (length kids) by → 0 ≡ origin_of kids by → ⊥
  some_origin Own is none = cc
  some_origin Parent is none = cc
  some_origin Processor is none = cc
  some_origin (Kid c) is none = no_kid 0 c (omega arith) (kid_less c is) none

  same_locks : (x y : Option Lock) → ((l : Lock) → x ≡ Some l → IsOrigin kind (length kids) l.by) → ((l : Lock) → y ≡ Some l → IsOrigin kind (length kids) l.by) → ((t : Part) → lock_number kids t x ≡ lock_number kids t y) → ((l m : Lock) → x ≡ Some l → y ≡ Some m → l.awaited ≡ m.awaited) → x ≡ y
  same_locks None None is_x is_y numbers awaited = refl
  same_locks None (Some m) is_x is_y numbers awaited = absurd (some_origin m.by (is_y m refl) (numbers origin))
  same_locks (Some l) None is_x is_y numbers awaited = absurd (some_origin l.by (is_x l refl) (sym (numbers origin)))
  same_locks (Some l) (Some m) is_x is_y numbers awaited =
      let by = same_by l.by m.by (is_x l refl) (is_y m refl) (numbers origin) in
      let id : l.request.id.0 ≡ m.request.id.0 = numbers asked in
      let value : l.request.value ≡ m.request.value = numbers kept in
      let set = awaited l m refl refl in
      λ i. Some (record { by = by i; request = record { id = record { 0 = id i }; value = value i }; awaited = set i })

-- a list that an object has is a queue that is there
list_there : (kind : Kind) (o : ℕ) (l : Lane) → has_list kind l ≡ true → list_any (same_queue (record { object = o; lane = l })) (queues_at kind o) ≡ true
list_there Root o l has = cc
list_there Mid o lane.UpRequests has = rw (same_number o o refl) refl
list_there Mid o lane.UpResponses has = rw (same_number o o refl) refl
list_there Mid o lane.Down has = rw (same_number o o refl) refl
list_there Mid o lane.Requests has = cc
list_there Mid o lane.Answers has = cc
list_there Leaf o lane.UpRequests has = rw (same_number o o refl) refl
list_there Leaf o lane.UpResponses has = rw (same_number o o refl) refl
list_there Leaf o lane.Down has = rw (same_number o o refl) refl
list_there Leaf o lane.Requests has = rw (same_number o o refl) refl
list_there Leaf o lane.Answers has = rw (same_number o o refl) refl

module _ (p : Protocol) (tree : Tree) (a b : Line) (lawful : IsLawful tree) (line_a : IsLine p tree a) (line_b : IsLine p tree b) (regs : (r : Reg) → has_reg p tree r ≡ true → (image tree a).reg r ≡ (image tree b).reg r) (queues : (q : Queue) → has_queue tree q ≡ true → (image tree a).queue q ≡ (image tree b).queue q) where
  -- an object of the tree, and what both lines keep of it
  module _ (o : ℕ) (kind : Kind) (is : kind_of tree o ≡ Some kind) where
    abbrev kids : List ℕ
    kids = children_of tree o

    lists_same : (l : Lane) → list_at a o l ≡ list_at b o l
    lists_same l = by_list (has_list kind l) refl
      where
        by_list : (c : Bool) → has_list kind l ≡ c → list_at a o l ≡ list_at b o l
        by_list true has = same_items (list_at a o l) (list_at b o l) (queues (record { object = o; lane = l }) (queue_there p tree o kind is (record { object = o; lane = l }) (list_there kind o l has)))
        by_list false lacks = line_a.missing o kind l is lacks ∙ sym (line_b.missing o kind l is lacks)

    module _ (x y : Local) (at_x : local_at a o ≡ Some x) (at_y : local_at b o ≡ Some y) where
      formed_x : IsWellFormed p kind (length kids) x
      formed_x = line_a.locals o kind x is at_x

      formed_y : IsWellFormed p kind (length kids) y
      formed_y = line_b.locals o kind y is at_y

      own_same : (r : Reg) (g : Local → ℕ) → has_reg p tree r ≡ true → option_map_or g (local_at a o) 0 ≡ option_map_or g (local_at b o) 0 → g x ≡ g y
      own_same r g has same = sym (own tree a o x g at_x) ∙ same ∙ own tree b o y g at_y

      fields_same : x.fields ≡ y.fields
      fields_same = same_statuses x.fields y.fields (formed_x.field_count ∙ sym formed_y.field_count) by_field
        where
          less_is : (i m n : ℕ) → i < m → m ≡ n → nat_lt i n ≡ true
          less_is i m n less same = grind arith

          by_field : (i : ℕ) → i < length x.fields → status_number (slice_get x.fields i) ≡ status_number (slice_get y.fields i)
          by_field i less =
              let has = field_there p tree o kind is i (less_is i (length x.fields) (length (part p kind).fields) less formed_x.field_count) in
              own_same (field i o) (λ local. status_number (slice_get local.fields i)) has (regs (field i o) has)

      kid_at : (k : ℕ) → k < length kids → (c : ℕ) × (slice_get kids k ≡ Some c)
      kid_at k less = at_below kids k less

      kid_same : (r : Reg) (k c : ℕ) (g : ℕ → Local → ℕ) → slice_get kids k ≡ Some c → in_parent tree a c g ≡ in_parent tree b c g → g k x ≡ g k y
      kid_same r k c g kid same = sym (kept_of_kid tree a o k c x g at_x kid) ∙ same ∙ kept_of_kid tree b o k c y g at_y kid

      dir_same : x.dir ≡ y.dir
      dir_same = same_statuses x.dir y.dir (formed_x.dir_count ∙ sym formed_y.dir_count) by_kid
        where
          by_kid : (k : ℕ) → k < length x.dir → status_number (slice_get x.dir k) ≡ status_number (slice_get y.dir k)
          by_kid k less =
              let count = formed_x.dir_count in
              let kid = kid_at k (rw count at less) in
              kid_same (entry kid.0) k kid.0 (λ k local. status_number (slice_get local.dir k)) kid.1 (regs (entry kid.0) (entry_there p tree o kind is k kid.0 kid.1))

      val_same : x.val ≡ y.val
      val_same = own_same (val o) (λ local. local.val) (value_there p tree o kind is) (regs (val o) (value_there p tree o kind is))

      lock_same : (side : Side) (t : Part) → lock_number kids t (lock_at side x) ≡ lock_number kids t (lock_at side y)
      lock_same side t = own_same (lock side t o) (λ local. lock_number kids t (lock_at side local)) (lock_there p tree o kind is side t) (regs (lock side t o) (lock_there p tree o kind is side t))

      up_same : x.up ≡ y.up
      up_same =
          same_locks kind kids (are_kids tree lawful o kind is) x.up y.up (λ l at. (formed_x.up l at).0.origin) (λ l at. (formed_y.up l at).0.origin) (lock_same Up)
          (λ l m at_l at_m. (formed_x.up l at_l).1 ∙ sym (formed_y.up m at_m).1)

      bit_same : (k : ℕ) → k < length kids → has_bit (awaited_of x).0 k ≡ has_bit (awaited_of y).0 k
      bit_same k less =
          let kid = kid_at k less in
          bit_read _ _ (kid_same (awaits kid.0) k kid.0 (λ k local. cond (has_bit (awaited_of local).0 k) 1 0) kid.1 (regs (awaits kid.0) (awaits_there p tree o kind is k kid.0 kid.1)))

      awaited_same : (l m : Lock) → x.down ≡ Some l → y.down ≡ Some m → l.awaited ≡ m.awaited
      awaited_same l m at_l at_m =
          same_sets (length kids) l.awaited m.awaited (formed_x.down l at_l).awaited (formed_y.down m at_m).awaited
          (λ k less. sym (bit_of k x.down l at_l) ∙ bit_same k less ∙ bit_of k y.down m at_m)
        where
          bit_of : (k : ℕ) (d : Option Lock) (l : Lock) → d ≡ Some l → has_bit (option_map_or (λ lock. lock.awaited) d nobody).0 k ≡ has_bit l.awaited.0 k
          bit_of k d l at = ap (λ (d : Option Lock). has_bit (option_map_or (λ lock. lock.awaited) d nobody).0 k) at

      down_same : x.down ≡ y.down
      down_same = same_locks kind kids (are_kids tree lawful o kind is) x.down y.down (λ l at. (formed_x.down l at).origin) (λ l at. (formed_y.down l at).origin) (lock_same Down) awaited_same

      pub locals_same : x ≡ y
      locals_same = λ i. record { fields = fields_same i; dir = dir_same i; val = val_same i; up = up_same i; down = down_same i }

  -- the kind of an object of a line
  object_kind : (o : ℕ) (x : Cell) → slice_get a o ≡ Some x → (kind : Kind) × (kind_of tree o ≡ Some kind)
  object_kind o x at =
      let count = line_a.objects in
      let less : o < length tree = rw count at (below_at a o x at) in
      let node = at_below tree o less in
      (node.0.kind, ap (option_map (λ (n : Node). n.kind)) node.1)

  cells_same : (o : ℕ) (x y : Cell) → slice_get a o ≡ Some x → slice_get b o ≡ Some y → x ≡ y
  cells_same o x y at_x at_y =
      let k = object_kind o x at_x in
      let locals = locals_same o k.0 k.1 x.local y.local (ap (option_map (λ (c : Cell). c.local)) at_x) (ap (option_map (λ (c : Cell). c.local)) at_y) in
      let list = λ (l : Lane). sym (ap (λ (c : Option Cell). option_map_or (λ cell. list_of cell l) c []) at_x) ∙ lists_same o k.0 k.1 l ∙ ap (λ (c : Option Cell). option_map_or (λ cell. list_of cell l) c []) at_y in
      λ i. record {
        local = locals i;
        up_requests = list lane.UpRequests i;
        up_responses = list lane.UpResponses i;
        down = list lane.Down i;
        requests = list lane.Requests i;
        answers = list lane.Answers i;
      }

  pub lines_same : a ≡ b
  lines_same = same_lists a b (line_a.objects ∙ sym line_b.objects) cells_same
