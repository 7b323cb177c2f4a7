-- The invariant at an edge after a firing, by what the firing adds and takes there.
use Rattle.std.proofs.Common.{◌≡◌, ℕ, ◌+◌, ◌≤◌, Bool, true, cond, List, arith}
use Rattle.std.specs.Prelude.{slice_get}
use Rattle.hem_base.specs.declared.ids.Message.{Message}
use Rattle.hem_syntax.specs.Protocol.{Protocol}
use Rattle.hem_object.specs.Local.{Local}
use Rattle.hem_rows.specs.Acts.{IsThere, is_down_request, is_down_response}
use Rattle.hem_locks.specs.Edges.{one_if, for_kid, for_parent, held, awaits, EdgeHolds}
use Rattle.hem_locks.proofs.Counts.{changed, head_counts, count-changed, length-changed, order-changed}

-- which of the three lists of an edge a firing takes from and sends to
pub record Flow : Type 0 where
  pub takes_request : Bool
  pub takes_response : Bool
  pub takes_down : Bool
  pub sends_request : Bool
  pub sends_response : Bool
  pub sends_down : Bool

-- what it takes is there, and what it changes at both ends adds up
pub record Balances (p : Protocol) (c : ℕ) (high high' low low' : Local) (up_requests up_responses down : List Message) (flow : Flow) (m : Message) : Type 0 where
  pub request_there : flow.takes_request ≡ true → IsThere (slice_get up_requests 0)
  pub response_there : flow.takes_response ≡ true → IsThere (slice_get up_responses 0)
  pub uplock : one_if flow.sends_request + cond flow.sends_down (one_if (is_down_response p m)) 0 + for_kid c high'.up + for_kid c high'.down + held low.up ≡ one_if flow.takes_request + head_counts (is_down_response p) flow.takes_down down + for_kid c high.up + for_kid c high.down + held low'.up
  pub downlock : cond flow.sends_down (one_if (is_down_request p m)) 0 + one_if flow.sends_response + for_parent low'.down + awaits c high.down ≡ head_counts (is_down_request p) flow.takes_down down + one_if flow.takes_response + for_parent low.down + awaits c high'.down
  pub known : cond flow.sends_down (one_if (is_down_response p m)) 0 + cond flow.sends_down (one_if (is_down_request p m)) 0 ≡ one_if flow.sends_down
  pub behind : cond flow.sends_down (one_if (is_down_response p m)) 0 + awaits c high.down ≤ 1
  pub single : held low'.up + held low'.down ≤ 1 + for_parent low'.down
  pub spared : for_kid c high'.down + awaits c high'.down ≤ 1

-- then the invariant holds after it
pub edge_after : (p : Protocol) (c : ℕ) (high high' low low' : Local) (up_requests up_responses down : List Message) (flow : Flow) (m : Message) → EdgeHolds p c high low up_requests up_responses down → Balances p c high high' low low' up_requests up_responses down flow m → EdgeHolds p c high' low' (changed flow.takes_request flow.sends_request m up_requests) (changed flow.takes_response flow.sends_response m up_responses) (changed flow.takes_down flow.sends_down m down)
edge_after p c high high' low low' up_requests up_responses down flow m holds moves =
    let requests = length-changed flow.takes_request flow.sends_request m up_requests moves.request_there in
    let responses = length-changed flow.takes_response flow.sends_response m up_responses moves.response_there in
    let answers = count-changed (is_down_response p) flow.takes_down flow.sends_down m down in
    let asks = count-changed (is_down_request p) flow.takes_down flow.sends_down m down in
    record {
      uplock = omega (arith, requests, answers, holds.uplock, moves.uplock);
      downlock = omega (arith, responses, asks, holds.downlock, moves.downlock);
      order = order-changed p flow.takes_down flow.sends_down m down moves.known (omega (arith, holds.downlock, moves.behind)) holds.order;
      single = moves.single;
      spared = moves.spared;
    }
