use Rattle.std.proofs.Common.{◌≡◌, drop}
use Rattle.std.specs.Prelude.{fold}
use Rattle.hem_cli.specs.Playing.{fed_one}
use Rattle.hem_cli.proofs.playing.feed_all.Given as goal

-- the queues fed so far, and then what is left
abbrev pub invariant-loop-fed : goal.invariant-loop-fed
invariant-loop-fed l = fold fed_one l.s (drop l.fed-index l.feed) ≡ fold fed_one l.fn.s l.feed
