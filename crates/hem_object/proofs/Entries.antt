-- Changes of directory entries.
use Rattle.std.proofs.Common.{◌≡◌, refl, ℕ, ◌+◌, ◌<◌, arith, Bool, true, false, List, ◌++◌, length, take, drop, append_assoc}
use Rattle.std.proofs.lemmas.List.{take_more, take_more_set, drop-set-lt, drop_more}
use Rattle.std.proofs.Math.ListN.{length-set}
use Rattle.std.specs.Prelude.{cond, slice_set}
use Rattle.hem_base.specs.declared.ids.Status8.{Status8}
use Rattle.hem_object.specs.Changes.{set_at}

-- one entry more, which is set where the test says so
pub set_at-more : (s : Status8) (test : ℕ → Bool) (dir : List Status8) (i : ℕ) (b : Bool) → i < length dir → b ≡ test i → take (i + 1) (cond b (slice_set dir i s) dir) ++ set_at s test (i + 1) (drop (i + 1) (cond b (slice_set dir i s) dir)) ≡ take i dir ++ set_at s test i (drop i dir)
set_at-more s test dir i true within on =
    rw (take_more_set dir i s within, drop-set-lt (i + 1) dir i s (omega arith), drop_more dir i s within, append_assoc, ← on) refl
set_at-more s test dir i false within off =
    rw (take_more dir i s within, drop_more dir i s within, append_assoc, ← off) refl

-- an entry that is set leaves their number
pub length-cond_set : (s : Status8) (dir : List Status8) (i : ℕ) (b : Bool) → length (cond b (slice_set dir i s) dir) ≡ length dir
length-cond_set s dir i true = length-set dir i s
length-cond_set s dir i false = refl
