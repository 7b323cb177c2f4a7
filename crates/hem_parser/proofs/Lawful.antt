-- A protocol that is read keeps what every protocol keeps.
use Rattle.std.proofs.Common.{◌≡◌, ℕ, zero, suc, Bool, true, false, List, [], ◌∷◌, ◌++◌, length, take, refl, subst}
use Rattle.hem_base.specs.declared.ids.Kind.{Kind}
use Rattle.hem_base.specs.declared.ids.Kind.TheVariants.{Root, Mid, Leaf}
use Rattle.hem_base.specs.declared.words.Reserved.{Reserved}
use Rattle.hem_base.specs.declared.words.Reserved.TheVariants as word
use Rattle.hem_base.specs.declared.words.Sign.{Sign}
use Rattle.hem_base.specs.declared.words.Sign.TheVariants as mark
use Rattle.hem_text.specs.declared.symbol.Symbol.{Symbol}
use Rattle.hem_text.specs.declared.symbol.Symbol.TheVariants.{One, Item as Some_of, Many}
use Rattle.hem_text.specs.Lexemes.{Lexeme}
use Rattle.hem_text.specs.Grammars.{state, Reads}
use Rattle.hem_syntax.specs.declared.rule.Class.TheVariants as class
use Rattle.hem_syntax.specs.declared.rule.Hold.TheVariants as hold
use Rattle.hem_syntax.specs.declared.rule.Side.TheVariants as side
use Rattle.hem_syntax.specs.declared.rule.Origin.TheVariants as origin
use Rattle.hem_syntax.specs.declared.rule.Value.TheVariants as value
use Rattle.hem_grammar.specs.declared.terminals.Terminal.{Terminal}
use Rattle.hem_grammar.specs.declared.terminals.Terminal.TheVariants as the
use Rattle.hem_grammar.specs.declared.terminals.RulePart.TheVariants as rule
use Rattle.hem_grammar.specs.declared.terminals.AtomPart.TheVariants as atom
use Rattle.hem_grammar.specs.declared.terminals.AssignPart.TheVariants as assign
use Rattle.hem_grammar.specs.declared.terminals.SendPart.TheVariants as send
use Rattle.hem_grammar.specs.declared.terminals.Item.{Item}
use Rattle.hem_grammar.specs.declared.terminals.Item.TheVariants as item
use Rattle.hem_syntax.specs.Protocol.{Protocol, KindPart}
use Rattle.hem_grammar.specs.Grammar.{start, root, mid, leaf}
use Rattle.hem_syntax.specs.Lawful.{IsProtocol, IsPart}
use Rattle.hem_grammar.specs.Draft.{Read, grammar, nothing, protocol_of}
use Rattle.hem_parser.specs.ProtocolReading.{begin}
use Rattle.hem_parser.proofs.Kept.{By, Seq, Token, Leads, run_keeps, ends_so}
use Rattle.hem_parser.proofs.Claims.{Claim, unread, stating, declaring, opening, between, opened, inside, whole, taking, speaking, asking, testing, valuing, choosing, sending, Holds, Kind_of}
use Rattle.hem_parser.proofs.Declaring.{name_read, status_read, status_more, stated, message_read, class_read, declared, field_read, start_read, opened_all, dir_read, root_read, mid_read}
use Rattle.hem_parser.proofs.Ruling.{rule_read, rule_name_read, take_me_read, take_parent_read, take_kids_read, take_none_read, take_message_read, up_read, down_read, free_read, free_side_read, lock_read, lock_side_read, lock_origin_read, rule_end_read}
use Rattle.hem_parser.proofs.Guarding.{when_read, comma_read, atom_field_read, atom_me_read, atom_kids_read, atom_others_read, asked_read, kids_all_read, kids_any_read, others_all_read, others_any_read, atom_status_read, atom_more_read, atom_message_read, set_read, set_comma_read, set_field_read, set_val_read, set_me_read, set_targets_read, set_status_read, set_value_read, send_read, send_me_read, send_parent_read, send_kids_read, send_others_read, send_status_read, send_more_read, send_message_read, send_value_read}

-- a token with all that follows it
abbrev Tk : ℕ → Terminal → Claim → Claim → Type 0
Tk n x c d = Token grammar Holds n x c d

-- a symbol, and symbols one after the other
abbrev On : ℕ → Symbol Terminal Item → Claim → Claim → Type 0
On n s c d = By grammar Holds (Tk n) s c d

abbrev All : ℕ → List (Symbol Terminal Item) → Claim → Claim → Type 0
All n xs c d = Seq grammar Holds (On n) xs c d

abbrev same : (c : Claim) → (e : Read) → Holds c e → Holds c e
same c e h = h

plain : (n : ℕ) (w : Reserved) (c : Claim) → Tk (suc n) (the.Word w) c c
plain n w c = (c, λ e t h spelled fresh within. h, same c)

sign : (n : ℕ) (s : Sign) (c : Claim) → Tk (suc n) (the.Sign s) c c
sign n s c = (c, λ e t h spelled fresh within. h, same c)

module _ (κ : Kind) (d : Bool) where
  -- the guard
  set_rest : (n : ℕ) → All (suc n) (One (the.Atom atom.Status) ∷ Many item.AtomMore ∷ []) (inside κ d testing) (inside κ d whole)
  set_rest n = ((inside κ d testing), (inside κ d whole), same (inside κ d testing), ((inside κ d whole), atom_status_read κ d, same (inside κ d whole)), ((inside κ d whole), (inside κ d whole), same (inside κ d whole), (refl, (((inside κ d whole), atom_more_read κ d, same (inside κ d whole)), tt)), same (inside κ d whole)))

  in_set : (n : ℕ) → All (suc n) (One (the.Word word.In) ∷ One (the.Atom atom.Status) ∷ Many item.AtomMore ∷ []) (inside κ d testing) (inside κ d whole)
  in_set n = ((inside κ d testing), (inside κ d testing), same (inside κ d testing), plain n word.In (inside κ d testing), set_rest n)

  atom_field : (n : ℕ) → Tk (suc (suc n)) (the.Atom atom.Field) (inside κ d whole) (inside κ d whole)
  atom_field n = ((inside κ d testing), atom_field_read κ d, in_set n)

  atom_me : (n : ℕ) → Tk (suc (suc n)) (the.Atom atom.Me) (inside κ d whole) (inside κ d whole)
  atom_me n = ((inside κ d testing), atom_me_read κ d, in_set n)

  atom_kids : (n : ℕ) → Tk (suc (suc n)) (the.Atom atom.Kids) (inside κ d whole) (inside κ d whole)
  atom_kids n = ((inside κ d speaking), atom_kids_read κ d, ((inside κ d speaking), (inside κ d testing), same (inside κ d speaking), (((inside κ d testing), kids_all_read κ d, same (inside κ d testing)), (((inside κ d testing), kids_any_read κ d, same (inside κ d testing)), tt)), set_rest n))

  atom_others : (n : ℕ) → Tk (suc (suc n)) (the.Atom atom.Others) (inside κ d whole) (inside κ d whole)
  atom_others n = ((inside κ d speaking), atom_others_read κ d, ((inside κ d speaking), (inside κ d testing), same (inside κ d speaking), (((inside κ d testing), others_all_read κ d, same (inside κ d testing)), (((inside κ d testing), others_any_read κ d, same (inside κ d testing)), tt)), set_rest n))

  asked : (n : ℕ) → Tk (suc (suc n)) (the.Atom atom.Asked) (inside κ d whole) (inside κ d whole)
  asked n = ((inside κ d asking), asked_read κ d, ((inside κ d asking), (inside κ d whole), same (inside κ d asking), ((inside κ d whole), atom_message_read κ d, same (inside κ d whole)), same (inside κ d whole)))

  atoms : (n : ℕ) → On (suc (suc n)) (Some_of item.Atom) (inside κ d whole) (inside κ d whole)
  atoms n = (atom_field n, (atom_me n, (atom_kids n, (atom_others n, (asked n, tt)))))

  comma : (n : ℕ) → Tk (suc (suc (suc n))) (the.Atom atom.Comma) (inside κ d whole) (inside κ d whole)
  comma n = ((inside κ d whole), comma_read κ d, ((inside κ d whole), (inside κ d whole), same (inside κ d whole), atoms n, same (inside κ d whole)))

  when : (n : ℕ) → Tk (suc (suc (suc (suc n)))) (the.Atom atom.When) (inside κ d whole) (inside κ d whole)
  when n = ((inside κ d whole), when_read κ d, ((inside κ d whole), (inside κ d whole), same (inside κ d whole), atoms (suc n), ((inside κ d whole), (inside κ d whole), same (inside κ d whole), (refl, (comma n, tt)), same (inside κ d whole))))

  -- the sets
  set_field : (n : ℕ) → Tk (suc (suc n)) (the.Assign assign.Field) (inside κ d whole) (inside κ d whole)
  set_field n = ((inside κ d whole), set_field_read κ d, ((inside κ d whole), (inside κ d whole), same (inside κ d whole), sign n mark.Assign (inside κ d whole), ((inside κ d whole), (inside κ d whole), same (inside κ d whole), ((inside κ d whole), set_status_read κ d, same (inside κ d whole)), same (inside κ d whole))))

  set_me : (n : ℕ) → Tk (suc (suc n)) (the.Assign assign.Me) (inside κ d whole) (inside κ d whole)
  set_me n = ((inside κ d whole), set_me_read κ d, ((inside κ d whole), (inside κ d whole), same (inside κ d whole), sign n mark.Assign (inside κ d whole), ((inside κ d whole), (inside κ d whole), same (inside κ d whole), ((inside κ d whole), set_status_read κ d, same (inside κ d whole)), same (inside κ d whole))))

  set_targets : (n : ℕ) → Tk (suc (suc n)) (the.Assign assign.Targets) (inside κ d whole) (inside κ d whole)
  set_targets n = ((inside κ d whole), set_targets_read κ d, ((inside κ d whole), (inside κ d whole), same (inside κ d whole), sign n mark.Assign (inside κ d whole), ((inside κ d whole), (inside κ d whole), same (inside κ d whole), ((inside κ d whole), set_status_read κ d, same (inside κ d whole)), same (inside κ d whole))))

  set_val : (n : ℕ) → Tk (suc (suc n)) (the.Assign assign.Val) (inside κ d whole) (inside κ d whole)
  set_val n = ((inside κ d valuing), set_val_read κ d, ((inside κ d valuing), (inside κ d valuing), same (inside κ d valuing), sign n mark.Assign (inside κ d valuing), ((inside κ d valuing), (inside κ d whole), same (inside κ d valuing), (((inside κ d whole), set_value_read κ d value.Val, same (inside κ d whole)), (((inside κ d whole), set_value_read κ d value.Msg, same (inside κ d whole)), (((inside κ d whole), set_value_read κ d value.Kept, same (inside κ d whole)), (((inside κ d whole), set_value_read κ d value.Rs, same (inside κ d whole)), (((inside κ d whole), set_value_read κ d value.Zero, same (inside κ d whole)), tt))))), same (inside κ d whole))))

  assigns : (n : ℕ) → On (suc (suc n)) (Some_of item.Assign) (inside κ d whole) (inside κ d whole)
  assigns n = (set_field n, (set_val n, (set_me n, (set_targets n, tt))))

  set_comma : (n : ℕ) → Tk (suc (suc (suc n))) (the.Assign assign.Comma) (inside κ d whole) (inside κ d whole)
  set_comma n = ((inside κ d whole), set_comma_read κ d, ((inside κ d whole), (inside κ d whole), same (inside κ d whole), assigns n, same (inside κ d whole)))

  sets : (n : ℕ) → Tk (suc (suc (suc (suc n)))) (the.Assign assign.Set) (inside κ d whole) (inside κ d whole)
  sets n = ((inside κ d whole), set_read κ d, ((inside κ d whole), (inside κ d whole), same (inside κ d whole), assigns (suc n), ((inside κ d whole), (inside κ d whole), same (inside κ d whole), (refl, (set_comma n, tt)), same (inside κ d whole))))

  -- the send
  send_rest : (n : ℕ) → All (suc n) (One (the.Send send.Message) ∷ Some_of item.SendValue ∷ []) (inside κ d sending) (inside κ d whole)
  send_rest n = ((inside κ d sending), (inside κ d whole), same (inside κ d sending), ((inside κ d whole), send_message_read κ d, same (inside κ d whole)), ((inside κ d whole), (inside κ d whole), same (inside κ d whole), (((inside κ d whole), send_value_read κ d value.Val, same (inside κ d whole)), (((inside κ d whole), send_value_read κ d value.Msg, same (inside κ d whole)), (((inside κ d whole), send_value_read κ d value.Kept, same (inside κ d whole)), (((inside κ d whole), send_value_read κ d value.Rs, same (inside κ d whole)), (((inside κ d whole), send_value_read κ d value.Zero, same (inside κ d whole)), tt))))), same (inside κ d whole)))

  send_me : (n : ℕ) → Tk (suc (suc n)) (the.Send send.Me) (inside κ d whole) (inside κ d whole)
  send_me n = ((inside κ d sending), send_me_read κ d, send_rest n)

  send_parent : (n : ℕ) → Tk (suc (suc n)) (the.Send send.Parent) (inside κ d whole) (inside κ d whole)
  send_parent n = ((inside κ d sending), send_parent_read κ d, send_rest n)

  send_kids : (n : ℕ) → Tk (suc (suc n)) (the.Send send.Kids) (inside κ d whole) (inside κ d whole)
  send_kids n = ((inside κ d choosing), send_kids_read κ d, ((inside κ d choosing), (inside κ d choosing), same (inside κ d choosing), plain n word.In (inside κ d choosing), ((inside κ d choosing), (inside κ d sending), same (inside κ d choosing), ((inside κ d sending), send_status_read κ d, same (inside κ d sending)), ((inside κ d sending), (inside κ d sending), same (inside κ d sending), (refl, (((inside κ d sending), send_more_read κ d, same (inside κ d sending)), tt)), send_rest n))))

  send_others : (n : ℕ) → Tk (suc (suc n)) (the.Send send.Others) (inside κ d whole) (inside κ d whole)
  send_others n = ((inside κ d choosing), send_others_read κ d, ((inside κ d choosing), (inside κ d choosing), same (inside κ d choosing), plain n word.In (inside κ d choosing), ((inside κ d choosing), (inside κ d sending), same (inside κ d choosing), ((inside κ d sending), send_status_read κ d, same (inside κ d sending)), ((inside κ d sending), (inside κ d sending), same (inside κ d sending), (refl, (((inside κ d sending), send_more_read κ d, same (inside κ d sending)), tt)), send_rest n))))

  sends : (n : ℕ) → Tk (suc (suc (suc n))) (the.Send send.Send) (inside κ d whole) (inside κ d whole)
  sends n = ((inside κ d whole), send_read κ d, ((inside κ d whole), (inside κ d whole), same (inside κ d whole), (send_me n, (send_parent n, (send_kids n, (send_others n, tt)))), same (inside κ d whole)))

  -- the rule
  take_me : (n : ℕ) → Tk (suc (suc n)) (the.Rule rule.TakeMe) (inside κ d whole) (inside κ d whole)
  take_me n = ((inside κ d taking), take_me_read κ d, ((inside κ d taking), (inside κ d whole), same (inside κ d taking), ((inside κ d whole), take_message_read κ d, same (inside κ d whole)), same (inside κ d whole)))

  take_parent : (n : ℕ) → Tk (suc (suc n)) (the.Rule rule.TakeParent) (inside κ d whole) (inside κ d whole)
  take_parent n = ((inside κ d taking), take_parent_read κ d, ((inside κ d taking), (inside κ d whole), same (inside κ d taking), ((inside κ d whole), take_message_read κ d, same (inside κ d whole)), same (inside κ d whole)))

  take_kids : (n : ℕ) → Tk (suc (suc n)) (the.Rule rule.TakeKids) (inside κ d whole) (inside κ d whole)
  take_kids n = ((inside κ d taking), take_kids_read κ d, ((inside κ d taking), (inside κ d whole), same (inside κ d taking), ((inside κ d whole), take_message_read κ d, same (inside κ d whole)), same (inside κ d whole)))

  takes : (n : ℕ) → On (suc (suc n)) (Some_of item.Take) (inside κ d whole) (inside κ d whole)
  takes n = (take_me n, (take_parent n, (take_kids n, (((inside κ d whole), take_none_read κ d, same (inside κ d whole)), tt))))

  ups : (n : ℕ) → On (suc n) (Some_of item.UpHold) (inside κ d whole) (inside κ d whole)
  ups n = (((inside κ d whole), up_read κ d hold.Any, same (inside κ d whole)), (((inside κ d whole), up_read κ d hold.Free, same (inside κ d whole)), (((inside κ d whole), up_read κ d hold.Child, same (inside κ d whole)), (((inside κ d whole), up_read κ d hold.Parent, same (inside κ d whole)), (((inside κ d whole), up_read κ d hold.Own, same (inside κ d whole)), tt)))))

  downs : (n : ℕ) → On (suc n) (Some_of item.DownHold) (inside κ d whole) (inside κ d whole)
  downs n = (((inside κ d whole), down_read κ d hold.Any, same (inside κ d whole)), (((inside κ d whole), down_read κ d hold.Free, same (inside κ d whole)), (((inside κ d whole), down_read κ d hold.Child, same (inside κ d whole)), (((inside κ d whole), down_read κ d hold.Parent, same (inside κ d whole)), (((inside κ d whole), down_read κ d hold.Own, same (inside κ d whole)), tt)))))

  frees : (n : ℕ) → Tk (suc (suc n)) (the.Rule rule.Free) (inside κ d whole) (inside κ d whole)
  frees n = ((inside κ d whole), free_read κ d, ((inside κ d whole), (inside κ d whole), same (inside κ d whole), (((inside κ d whole), free_side_read κ d side.Up, same (inside κ d whole)), (((inside κ d whole), free_side_read κ d side.Down, same (inside κ d whole)), tt)), same (inside κ d whole)))

  locks : (n : ℕ) → Tk (suc (suc n)) (the.Rule rule.Lock) (inside κ d whole) (inside κ d whole)
  locks n = ((inside κ d whole), lock_read κ d, ((inside κ d whole), (inside κ d whole), same (inside κ d whole), (((inside κ d whole), lock_side_read κ d side.Up, same (inside κ d whole)), (((inside κ d whole), lock_side_read κ d side.Down, same (inside κ d whole)), tt)), ((inside κ d whole), (inside κ d whole), same (inside κ d whole), (((inside κ d whole), lock_origin_read κ d origin.Child, same (inside κ d whole)), (((inside κ d whole), lock_origin_read κ d origin.Parent, same (inside κ d whole)), (((inside κ d whole), lock_origin_read κ d origin.Own, same (inside κ d whole)), tt))), same (inside κ d whole))))

  rules : (n : ℕ) → Tk (suc (suc (suc (suc (suc n))))) (the.Rule rule.Rule) (between κ d) (between κ d)
  rules n = ((opened κ d), rule_read κ d, ((opened κ d), (inside κ d whole), same (opened κ d), ((inside κ d whole), rule_name_read κ d, same (inside κ d whole)), ((inside κ d whole), (inside κ d whole), same (inside κ d whole), plain (suc (suc (suc n))) word.Take (inside κ d whole), ((inside κ d whole), (inside κ d whole), same (inside κ d whole), takes (suc (suc n)), ((inside κ d whole), (inside κ d whole), same (inside κ d whole), plain (suc (suc (suc n))) word.Need (inside κ d whole), ((inside κ d whole), (inside κ d whole), same (inside κ d whole), plain (suc (suc (suc n))) word.Up (inside κ d whole), ((inside κ d whole), (inside κ d whole), same (inside κ d whole), ups (suc (suc (suc n))), ((inside κ d whole), (inside κ d whole), same (inside κ d whole), plain (suc (suc (suc n))) word.Down (inside κ d whole), ((inside κ d whole), (inside κ d whole), same (inside κ d whole), downs (suc (suc (suc n))), ((inside κ d whole), (inside κ d whole), same (inside κ d whole), (refl, (when n, tt)), ((inside κ d whole), (inside κ d whole), same (inside κ d whole), (refl, (sets n, tt)), ((inside κ d whole), (inside κ d whole), same (inside κ d whole), (refl, (frees (suc (suc n)), tt)), ((inside κ d whole), (inside κ d whole), same (inside κ d whole), (refl, (locks (suc (suc n)), tt)), ((inside κ d whole), (inside κ d whole), same (inside κ d whole), (refl, (sends (suc n), tt)), ((inside κ d whole), (between κ d), same (inside κ d whole), ((between κ d), rule_end_read κ d, same (between κ d)), same (between κ d))))))))))))))))

-- a field
fields : (n : ℕ) (κ : Kind) → On (suc (suc n)) (Many item.Fields) (opening κ) (opening κ)
fields n κ = (refl, ((opening κ, λ e t h spelled fresh within. h, (opening κ, opening κ, same (opening κ), (opening κ, field_read κ, same (opening κ)), (opening κ, opening κ, same (opening κ), plain n word.Init (opening κ), (opening κ, opening κ, same (opening κ), (opening κ, start_read κ, same (opening κ)), same (opening κ))))), tt))

-- a message
messages : (n : ℕ) → On (suc (suc n)) (Many item.Messages) declaring declaring
messages n = (refl, ((declaring, λ e t h spelled fresh within. h, (declaring, declaring, same declaring, (declaring, message_read, same declaring), (declaring, declaring, same declaring, ((declaring, class_read class.ExtReq, same declaring), ((declaring, class_read class.ExtRsp, same declaring), ((declaring, class_read class.UpReq, same declaring), ((declaring, class_read class.UpRsp, same declaring), ((declaring, class_read class.DownReq, same declaring), ((declaring, class_read class.DownRsp, same declaring), tt)))))), same declaring))), tt))

abbrev last : Claim
last = between Leaf false

-- what is to come of the kinds, from the last on
leads_leaf : Leads grammar Holds last (opening Leaf) (leaf ++ One (the.Word word.End) ∷ [])
leads_leaf = ((suc zero), (opening Leaf), (opening Leaf), same (opening Leaf), plain zero word.Kind (opening Leaf), ((suc zero), (opening Leaf), (opening Leaf), same (opening Leaf), plain zero word.Leaf (opening Leaf), ((suc (suc zero)), (opening Leaf), (opening Leaf), same (opening Leaf), fields zero Leaf, ((suc (suc (suc (suc (suc zero))))), (between Leaf false), (between Leaf false), opened_all Leaf, (refl, (rules Leaf false zero, tt)), ((suc zero), (between Leaf false), (between Leaf false), same (between Leaf false), plain zero word.End (between Leaf false), ((suc zero), (between Leaf false), (between Leaf false), same (between Leaf false), plain zero word.End (between Leaf false), same last))))))

leads_mid : Leads grammar Holds last (opening Mid) (mid ++ leaf ++ One (the.Word word.End) ∷ [])
leads_mid = ((suc zero), (opening Mid), (opening Mid), same (opening Mid), plain zero word.Kind (opening Mid), ((suc zero), (opening Mid), (opening Mid), same (opening Mid), plain zero word.Mid (opening Mid), ((suc (suc zero)), (opening Mid), (opening Mid), same (opening Mid), fields zero Mid, ((suc zero), (between Mid false), (between Mid false), opened_all Mid, plain zero word.Dir (between Mid false), ((suc zero), (between Mid false), (between Mid false), same (between Mid false), plain zero word.Init (between Mid false), ((suc zero), (between Mid false), (between Mid true), same (between Mid false), ((between Mid true), dir_read Mid, same (between Mid true)), ((suc (suc (suc (suc (suc zero))))), (between Mid true), (between Mid true), same (between Mid true), (refl, (rules Mid true zero, tt)), ((suc zero), (between Mid true), (opening Leaf), same (between Mid true), ((opening Leaf), mid_read, same (opening Leaf)), leads_leaf))))))))

leads_root : Leads grammar Holds last declaring (root ++ mid ++ leaf ++ One (the.Word word.End) ∷ [])
leads_root = ((suc zero), (opening Root), (opening Root), declared, plain zero word.Kind (opening Root), ((suc zero), (opening Root), (opening Root), same (opening Root), plain zero word.Root (opening Root), ((suc (suc zero)), (opening Root), (opening Root), same (opening Root), fields zero Root, ((suc zero), (between Root false), (between Root false), opened_all Root, plain zero word.Dir (between Root false), ((suc zero), (between Root false), (between Root false), same (between Root false), plain zero word.Init (between Root false), ((suc zero), (between Root false), (between Root true), same (between Root false), ((between Root true), dir_read Root, same (between Root true)), ((suc (suc (suc (suc (suc zero))))), (between Root true), (between Root true), same (between Root true), (refl, (rules Root true zero, tt)), ((suc zero), (between Root true), (opening Mid), same (between Root true), ((opening Mid), root_read, same (opening Mid)), leads_mid))))))))

leads_all : Leads grammar Holds last unread start
leads_all = ((suc zero), unread, unread, same unread, plain zero word.Protocol unread, ((suc zero), unread, (stating 0), same unread, (stating 0, name_read, same (stating 0)), ((suc zero), (stating 0), (stating 0), same (stating 0), plain zero word.Status (stating 0), ((suc zero), (stating 0), (stating 1), same (stating 0), (stating 1, status_read 0, same (stating 1)), ((suc zero), (stating 1), (stating 2), same (stating 1), (stating 2, status_read 1, same (stating 2)), ((suc zero), (stating 2), (stating 2), same (stating 2), (refl, ((stating 2, status_more, same (stating 2)), tt)), ((suc (suc zero)), declaring, declaring, stated, messages zero, leads_root)))))))

-- what then holds is what every protocol keeps
part_of : (p : Protocol) (k : KindPart) → Kind_of (length p.statuses) (length p.messages) k.fields k.rules → IsPart p k
part_of p k h = record { few_fields = h.few_fields; field_names = h.names.declarable; fields_once = h.names.once; starts = h.starts; few_rules = h.few_rules; rules = h.rules; rules_once = h.rules_once }

protocol_so : (e : Read) → Holds last e → IsProtocol (protocol_of e)
protocol_so e h = record {
  name = h.0.declared.name;
  some_statuses = h.0.declared.some;
  few_statuses = h.0.declared.few;
  few_messages = h.0.declared.few_messages;
  names = h.0.declared.names.declarable;
  names_once = h.0.declared.names.once;
  rule_names = h.0.rule_names.declarable;
  rule_names_once = h.0.rule_names.once;
  rule_names_in_order = h.1.order;
  root = part_of (protocol_of e) e.root h.0.root;
  mid = part_of (protocol_of e) e.mid h.0.mid;
  leaf = part_of (protocol_of e) (protocol_of e).leaf h.0.now;
  root_dir = h.0.finished.0;
  mid_dir = h.0.finished.1;
  leaf_dir = h.0.dir;
}

lawful : (ts : List Lexeme) (n : ℕ) (e : Read) → Reads grammar begin ts n e → IsProtocol (protocol_of e)
lawful ts n e reads = protocol_so e (ends_so grammar Holds last e (run_keeps grammar Holds last begin (take n ts) (state e []) (unread, refl, leads_all) reads.runs))

pub lawful_out : (ts : List Lexeme) (n : ℕ) (first e : Read) (stack : List (Symbol Terminal Item)) → first ≡ nothing → stack ≡ start → Reads grammar (state first stack) ts n e → IsProtocol (protocol_of e)
lawful_out ts n first e stack fresh all reads = let same : state first stack ≡ begin = cc in lawful ts n e (subst (λ s. Reads grammar s ts n e) same reads)
