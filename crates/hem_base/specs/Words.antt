-- Reserved words and signs of documents.
use Rattle.std.specs.Prelude.{ℕ, ◌==◌, ◌&&◌, ◌||◌, Bool, false, List, [], ◌∷◌, codes}
use Rattle.std.specs.List.{list_any, list_all}
use Rattle.std.specs.Char.{is_ascii_alphabetic, is_ascii_digit}
use Rattle.std.specs.Str.{bytes_eq}
use Rattle.hem_base.specs.declared.words.Reserved.{Reserved}
use Rattle.hem_base.specs.declared.words.Reserved.TheVariants as word
use Rattle.hem_base.specs.declared.words.Sign.{Sign}
use Rattle.hem_base.specs.declared.words.Sign.TheVariants as sign

-- how a reserved word is spelled
abbrev pub word_bytes : Reserved → List ℕ
word_bytes word.Protocol = codes "protocol"
word_bytes word.Use = codes "use"
word_bytes word.Status = codes "status"
word_bytes word.Message = codes "message"
word_bytes word.Kind = codes "kind"
word_bytes word.Root = codes "root"
word_bytes word.Mid = codes "mid"
word_bytes word.Leaf = codes "leaf"
word_bytes word.Field = codes "field"
word_bytes word.Init = codes "init"
word_bytes word.Dir = codes "dir"
word_bytes word.Rule = codes "rule"
word_bytes word.Take = codes "take"
word_bytes word.Need = codes "need"
word_bytes word.Up = codes "up"
word_bytes word.Down = codes "down"
word_bytes word.Any = codes "any"
word_bytes word.Free = codes "free"
word_bytes word.Child = codes "child"
word_bytes word.Parent = codes "parent"
word_bytes word.Own = codes "self"
word_bytes word.When = codes "when"
word_bytes word.In = codes "in"
word_bytes word.All = codes "all"
word_bytes word.Asked = codes "asked"
word_bytes word.Set = codes "set"
word_bytes word.Lock = codes "lock"
word_bytes word.Send = codes "send"
word_bytes word.End = codes "end"
word_bytes word.Me = codes "me"
word_bytes word.Kids = codes "kids"
word_bytes word.Others = codes "others"
word_bytes word.None = codes "none"
word_bytes word.Val = codes "val"
word_bytes word.Targets = codes "targets"
word_bytes word.Msg = codes "msg"
word_bytes word.Kept = codes "kept"
word_bytes word.Rs = codes "rs"
word_bytes word.ExtReq = codes "ext_req"
word_bytes word.ExtRsp = codes "ext_rsp"
word_bytes word.UpReq = codes "up_req"
word_bytes word.UpRsp = codes "up_rsp"
word_bytes word.DownReq = codes "down_req"
word_bytes word.DownRsp = codes "down_rsp"
word_bytes word.Tree = codes "tree"
word_bytes word.Work = codes "work"
word_bytes word.Lines = codes "lines"
word_bytes word.At = codes "at"
word_bytes word.Line = codes "line"
word_bytes word.History = codes "history"
word_bytes word.From = codes "from"
word_bytes word.Modules = codes "modules"
word_bytes word.Reg = codes "reg"
word_bytes word.Queue = codes "queue"
word_bytes word.Spontaneous = codes "spontaneous"
word_bytes word.Do = codes "do"
word_bytes word.If = codes "if"
word_bytes word.And = codes "and"
word_bytes word.Head = codes "head"
word_bytes word.Deq = codes "deq"
word_bytes word.Enq = codes "enq"
word_bytes word.Value = codes "value"
word_bytes word.Never = codes "never"
word_bytes word.Feed = codes "feed"

-- all reserved words
abbrev pub words : List Reserved
words = word.Protocol ∷ word.Use ∷ word.Status ∷ word.Message ∷ word.Kind ∷ word.Root ∷ word.Mid ∷ word.Leaf ∷ word.Field ∷ word.Init ∷ word.Dir ∷ word.Rule ∷ word.Take ∷ word.Need ∷ word.Up ∷ word.Down ∷ word.Any ∷ word.Free ∷ word.Child ∷ word.Parent ∷ word.Own ∷ word.When ∷ word.In ∷ word.All ∷ word.Asked ∷ word.Set ∷ word.Lock ∷ word.Send ∷ word.End ∷ word.Me ∷ word.Kids ∷ word.Others ∷ word.None ∷ word.Val ∷ word.Targets ∷ word.Msg ∷ word.Kept ∷ word.Rs ∷ word.ExtReq ∷ word.ExtRsp ∷ word.UpReq ∷ word.UpRsp ∷ word.DownReq ∷ word.DownRsp ∷ word.Tree ∷ word.Work ∷ word.Lines ∷ word.At ∷ word.Line ∷ word.History ∷ word.From ∷ word.Modules ∷ word.Reg ∷ word.Queue ∷ word.Spontaneous ∷ word.Do ∷ word.If ∷ word.And ∷ word.Head ∷ word.Deq ∷ word.Enq ∷ word.Value ∷ word.Never ∷ word.Feed ∷ []

-- whether a word is reserved
abbrev pub is_reserved : List ℕ → Bool
is_reserved text = list_any (λ w. bytes_eq (word_bytes w) text) words

-- the bytes of words and numbers: letters, digits and _
abbrev pub is_word_byte : ℕ → Bool
is_word_byte b = is_ascii_alphabetic b || is_ascii_digit b || b == 95

-- letters, digits and _, of which the first is a letter
abbrev pub is_word_text : List ℕ → Bool
is_word_text [] = false
is_word_text (b ∷ bs) = is_ascii_alphabetic b && list_all is_word_byte bs

-- how a sign is spelled
abbrev pub sign_bytes : Sign → List ℕ
sign_bytes sign.Open = codes "("
sign_bytes sign.Close = codes ")"
sign_bytes sign.Comma = codes ","
sign_bytes sign.Assign = codes ":="
sign_bytes sign.Differs = codes "!="
sign_bytes sign.Equals = codes "="
sign_bytes sign.Or = codes "|"
