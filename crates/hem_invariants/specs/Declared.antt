-- Messages whose ids a protocol declares.
use Rattle.std.specs.Prelude.{◌<◌, ◌≡◌, ◌≢◌, length, Some}
use Rattle.hem_base.specs.declared.ids.Message.{Message}
use Rattle.hem_syntax.specs.Protocol.{Protocol}
use Rattle.hem_fire.specs.Heads.{Heads}
use Rattle.hem_fire.specs.declared.outs.Outs.{Outs}
use Rattle.hem_fire.specs.declared.outs.To.TheVariants.{Nobody}

-- a message has a declared id
abbrev pub IsDeclared : Protocol → Message → Type 0
IsDeclared p m = m.id.0 < length p.messages

-- the heads that a lock may keep have declared ids: the requester's and the parent's
pub record HeadsDeclared (p : Protocol) (heads : Heads) : Type 0 where
  pub request : (m : Message) → heads.request ≡ Some m → IsDeclared p m
  pub parent : (m : Message) → heads.parent ≡ Some m → IsDeclared p m

-- what is sent has a declared id, where it goes to anybody
abbrev pub SendsDeclared : Protocol → Outs → Type 0
SendsDeclared p outs = outs.to ≢ Nobody → IsDeclared p outs.message
