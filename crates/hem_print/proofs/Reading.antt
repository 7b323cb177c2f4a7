-- The canonical text of a protocol reads as that protocol.
use Rattle.std.proofs.Common.{◌≤◌, length, take_all, sym, ap, ◌∙◌, arith}
use Rattle.hem_text.specs.Grammars.{full, run, state}
use Rattle.hem_text.specs.Tokens.{tokens_of}
use Rattle.hem_grammar.specs.Grammar.{start}
use Rattle.hem_syntax.specs.Protocol.{Protocol}
use Rattle.hem_syntax.specs.Lawful.{IsProtocol}
use Rattle.hem_grammar.specs.Draft.{grammar, nothing}
use Rattle.hem_print.specs.Canonical.{protocol_lines, protocol_text}
use Rattle.hem_print.specs.ReadsBack.{ReadsBack}
use Rattle.hem_print.proofs.Steps.{go_runs}
use Rattle.hem_print.proofs.Places.{run_bare}
use Rattle.hem_print.proofs.RuleRuns.{words_of}
use Rattle.hem_print.proofs.ProtocolRuns.{protocol_back}
use Rattle.hem_print.proofs.GoodWords.{protocol_good}
use Rattle.hem_print.proofs.Lexing.{tokens_are}

pub reads_back : (p : Protocol) → IsProtocol p → ReadsBack p
reads_back p good =
    let back = protocol_back p good in
    let ts = tokens_of (protocol_text p) in
    let le : length ts ≤ length ts = omega arith in
    record {
      env = back.env;
      reads = record {
        within = le;
        runs =
            ap (run full grammar (state nothing start)) (take_all (length ts) ts le)
            ∙ sym (run_bare (state nothing start) ts)
            ∙ ap (run full grammar (state nothing start)) (tokens_are (protocol_lines p) (protocol_good p good).is)
            ∙ go_runs (state nothing start) (words_of (protocol_lines p))
            ∙ back.runs;
      };
      says = back.says;
    }
