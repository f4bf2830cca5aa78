-- A fact about each token of a list.
use Rattle.std.proofs.Common.{◌≡◌, List, [], ◌∷◌, ◌++◌, All, false}
use Rattle.std.proofs.lemmas.List.Elements.{All-head, All-tail}
use Rattle.el_base.specs.declared.span.Span.{Span}
use Rattle.c_ast.specs.declared.token.Token.{Token}
use Rattle.c_ast.specs.declared.mark.Mark.{Mark}
use Rattle.c_ast.specs.Derives.{marked, between}
use Rattle.c_parse.specs.declared.bar.Bar.{Bar}
use Rattle.c_parse.specs.Symbols.{bars}

-- `All P`, token by token
abbrev pub Each : (Token → Type 0) → List Token → Type 0
Each P [] = Unit {0}
Each P (t ∷ ts) = P t × Each P ts

pub each_of : (P : Token → Type 0) (ts : List Token) → All P ts → Each P ts
each_of P [] h = tt
each_of P (t ∷ ts) h = (All-head P t ts h, each_of P ts (All-tail P t ts h))

pub each_front : (P : Token → Type 0) (ts us : List Token) → Each P (ts ++ us) → Each P ts
each_front P [] us h = tt
each_front P (t ∷ ts) us h = (h.0, each_front P ts us h.1)

pub each_back : (P : Token → Type 0) (ts us : List Token) → Each P (ts ++ us) → Each P us
each_back P [] us h = h
each_back P (t ∷ ts) us h = each_back P ts us h.1

pub each_inside : (P : Token → Type 0) (m n : Mark) (s z : Span) (ts : List Token) → Each P (between m s ts n z) → Each P ts
each_inside P m n s z ts h = each_front P ts (marked n z ∷ []) h.1

pub each_join : (P : Token → Type 0) (ts us : List Token) → Each P ts → Each P us → Each P (ts ++ us)
each_join P [] us h k = k
each_join P (t ∷ ts) us h k = (h.0, each_join P ts us h.1 k)

-- none of the tokens has a barred word
abbrev pub NoneBarred : Bar → List Token → Type 0
NoneBarred b ts = Each (λ t. bars b t.word ≡ false) ts
