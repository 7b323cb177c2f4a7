-- What the tokens of a rule keep, outside its guard, sets and send.
use Rattle.std.proofs.Common.{◌≡◌, ◌==◌, nat_lt, Bool, true, [], ◌∷◌, ◌++◌, append_assoc, length, refl, sym, ap, ◌∙◌, arith}
use Rattle.std.specs.List.{list_any}
use Rattle.std.specs.Str.{bytes_eq}
use Rattle.hem_text.specs.Lexemes.{Lexeme}
use Rattle.hem_base.specs.declared.ids.Kind.{Kind}
use Rattle.hem_base.specs.declared.ids.MsgId.{MsgId}
use Rattle.hem_syntax.specs.declared.rule.Take.{Take}
use Rattle.hem_syntax.specs.declared.rule.Take.TheVariants as take
use Rattle.hem_syntax.specs.declared.rule.Hold.{Hold}
use Rattle.hem_syntax.specs.declared.rule.Side.{Side}
use Rattle.hem_syntax.specs.declared.rule.Origin.{Origin}
use Rattle.hem_syntax.specs.declared.rule.Rule.{Rule}
use Rattle.hem_grammar.specs.declared.terminals.Terminal.TheVariants as the
use Rattle.hem_grammar.specs.declared.terminals.RulePart.TheVariants as rule
use Rattle.hem_syntax.specs.Lawful.{Counts, has_message, has_take, has_send, is_rule, names_after}
use Rattle.hem_grammar.specs.Draft.{Read, is_among, is_message, message, take_with, rule_id}
use Rattle.hem_text.specs.Spelling.{is_word}
use Rattle.hem_parser.proofs.Lists.{both, is_not, length_more, all_more, place_within, some_of, under, is_at_most}
use Rattle.hem_parser.proofs.Naming.{declarable, named_more, order_more, id_after, known_names}
use Rattle.hem_parser.proofs.Claims.{between, opened, inside, whole, taking, RuleSo, counts}
use Rattle.hem_parser.proofs.Declaring.{Mk}

-- a message that is used is declared
pub has_it : (e : Read) (t : Lexeme) → is_message e t ≡ true → nat_lt (message e t.text).0 (length e.messages) ≡ true
has_it e t used = place_within (λ m. bytes_eq m.0 t.text) e.messages (some_of (λ m. bytes_eq m.0 t.text) e.messages (both (is_word t) (is_among e.messages t.text) used).1)

module _ (κ : Kind) (d : Bool) where
  -- the word with which a rule begins
  pub rule_read : Mk (the.Rule rule.Rule) (between κ d) (opened κ d)
  rule_read e t h spelled fresh within = (h.0, h.1, under (length e.rules) 64 within)

  -- its name
  pub rule_name_read : Mk (the.Rule rule.NewRule) (opened κ d) (inside κ d whole)
  rule_name_read e t h spelled fresh within = (
    record {
      declared = h.0.declared;
      rule_names = known_names e.rule_names t.text h.0.rule_names (declarable t spelled within);
      root = h.0.root;
      mid = h.0.mid;
      now = h.0.now;
      finished = h.0.finished;
      dir = h.0.dir;
    },
    record {
      count = length e.rule_names;
      before = h.1.order;
      order = id_after e.rule_names t.text;
      few = h.2;
      fresh = is_not (list_any (λ x. x.name.0 == (rule_id e t.text).0) e.rules) fresh;
    },
    record {
      take = ap (λ (r : Rule). has_take (counts e) r.take) h.1.rule;
      guard = rw h.1.rule (record { few = omega arith; all = refl });
      sets = rw h.1.rule (record { few = omega arith; all = refl; once = refl });
      send = ap (λ (r : Rule). has_send (counts e) r.send) h.1.rule;
    },
  )

  -- what it takes
  pub take_me_read : Mk (the.Rule rule.TakeMe) (inside κ d whole) (inside κ d taking)
  take_me_read e t h spelled fresh within = (h.0, h.1, record { take = tt; guard = h.2.guard; sets = h.2.sets; send = h.2.send })

  pub take_parent_read : Mk (the.Rule rule.TakeParent) (inside κ d whole) (inside κ d taking)
  take_parent_read e t h spelled fresh within = (h.0, h.1, record { take = tt; guard = h.2.guard; sets = h.2.sets; send = h.2.send })

  pub take_kids_read : Mk (the.Rule rule.TakeKids) (inside κ d whole) (inside κ d taking)
  take_kids_read e t h spelled fresh within = (h.0, h.1, record { take = tt; guard = h.2.guard; sets = h.2.sets; send = h.2.send })

  pub take_none_read : Mk (the.Rule rule.TakeNone) (inside κ d whole) (inside κ d whole)
  take_none_read e t h spelled fresh within = (h.0, h.1, record { take = refl; guard = h.2.guard; sets = h.2.sets; send = h.2.send })

  taken : (n : Counts) (x : Take) (id : MsgId) → has_message n id ≡ true → has_take n (take_with x id) ≡ true
  taken n (take.Me i) id h = h
  taken n (take.Parent i) id h = h
  taken n (take.Kids i) id h = h
  taken n take.Nothing id h = refl

  pub take_message_read : Mk (the.Rule rule.TakeMessage) (inside κ d taking) (inside κ d whole)
  take_message_read e t h spelled fresh within = (
    h.0,
    h.1,
    record { take = taken (counts e) e.rule.take (message e t.text) (has_it e t spelled); guard = h.2.guard; sets = h.2.sets; send = h.2.send },
  )

  -- what it needs, frees and locks
  pub up_read : (x : Hold) → Mk (the.Rule (rule.Up x)) (inside κ d whole) (inside κ d whole)
  up_read x e t h spelled fresh within = h

  pub down_read : (x : Hold) → Mk (the.Rule (rule.Down x)) (inside κ d whole) (inside κ d whole)
  down_read x e t h spelled fresh within = h

  pub free_read : Mk (the.Rule rule.Free) (inside κ d whole) (inside κ d whole)
  free_read e t h spelled fresh within = h

  pub free_side_read : (x : Side) → Mk (the.Rule (rule.FreeSide x)) (inside κ d whole) (inside κ d whole)
  free_side_read x e t h spelled fresh within = h

  pub lock_read : Mk (the.Rule rule.Lock) (inside κ d whole) (inside κ d whole)
  lock_read e t h spelled fresh within = h

  pub lock_side_read : (x : Side) → Mk (the.Rule (rule.LockSide x)) (inside κ d whole) (inside κ d whole)
  lock_side_read x e t h spelled fresh within = h

  pub lock_origin_read : (x : Origin) → Mk (the.Rule (rule.LockOrigin x)) (inside κ d whole) (inside κ d whole)
  lock_origin_read x e t h spelled fresh within = h

  -- its end
  good : (n : Counts) (r : Rule) → RuleSo whole n r.take r.guard r.sets r.send → is_rule n r ≡ true
  good n r h = rw (h.take, is_at_most (length r.guard) 16 h.guard.few, h.guard.all, is_at_most (length r.sets) 8 h.sets.few, h.sets.all, h.sets.once, h.send) refl

  pub rule_end_read : Mk (the.Rule rule.EndRule) (inside κ d whole) (between κ d)
  rule_end_read e t h spelled fresh within =
      let earlier = e.root.rules ++ e.mid.rules in (
        record {
          declared = h.0.declared;
          rule_names = h.0.rule_names;
          root = h.0.root;
          mid = h.0.mid;
          now = record {
            few_fields = h.0.now.few_fields;
            names = h.0.now.names;
            starts = h.0.now.starts;
            few_rules = omega (arith, h.1.few, length_more e.rules e.rule);
            rules = all_more (is_rule (counts e)) e.rules e.rule h.0.now.rules (good (counts e) e.rule h.2);
            rules_once = named_more e.rules e.rule h.0.now.rules_once h.1.fresh;
          };
          finished = h.0.finished;
          dir = h.0.dir;
        },
        record {
          order = ap (names_after 0) (sym (append_assoc earlier e.rules (e.rule ∷ []))) ∙ order_more 0 (earlier ++ e.rules) e.rule h.1.count h.1.before ∙ h.1.order;
          rule = refl;
        },
      )
