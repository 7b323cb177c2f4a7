use Rattle.std.proofs.Common.{string_bytes}
use Rattle.hem_cli.proofs.ModuleReplies.{play_told}
use Rattle.hem_cli.proofs.playing.played.Goals as goal

pub returns : goal.returns
returns c =
    play_told (λ s. string_bytes s) c.args.m.now c.args.feed.now c.in_ok-s.s c.play.new.s c.args.most c.in_ok-played.played c.play_text.result
    c.in_ok-s.ensures c.in_ok-played.ensures.ok c.play_text.ensures
