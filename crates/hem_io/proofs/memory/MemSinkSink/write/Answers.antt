use Rattle.std.proofs.Common.{◌≡◌, ◌<◌, ap, ◌∙◌, arith, length}
use Rattle.hem_io.specs.Memory.{failures}
use Rattle.hem_io.proofs.Failing.{room_stays}
use Rattle.hem_io.proofs.memory.MemSinkSink.write.Goals as goal

-- a call that takes bytes found room, and so no call before it found none
pub returns-clause-cause : goal.returns-clause-cause
returns-clause-cause c =
    let s = c.self.inside in
    let some : length s.bytes.items < s.room = omega (arith, c.min-count.ensures, c.if-count-eq0.false, c.len.ensures) in
    let none : s.refused ≡ 0 = c.self.invariant.3 (omega (arith, some)) in
    let planned = rw c.deref.ensures.value at c.if-is_planned.ensures.stays in
    let same = room_stays (length s.bytes.items) (length c.extend_from_slice.new.self.items) s.room s.refused _ _ some none planned ∙ ap failures c.self.view_is in
    record { later = omega (arith, same); failed = tt; succeeded = same }
