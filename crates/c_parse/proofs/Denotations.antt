-- What symbols stand for: the tokens that each of them derives.
use Rattle.std.proofs.Common.{◌≡◌, ℕ, zero, suc, ◌≤◌, List, [], ◌∷◌, ◌++◌, Bool, true, false, zero-le, refl, sym, ◌∙◌, ap, subst, append_assoc}
use Rattle.std.proofs.lemmas.List.{append-nil}
use Rattle.el_base.specs.declared.span.Span.{Span}
use Rattle.el_base.specs.declared.ty.Ty.{Ty}
use Rattle.c_ast.specs.declared.token.Token.{Token}
use Rattle.c_ast.specs.declared.token.Word.{Word}
use Rattle.c_ast.specs.declared.token.Word.TheVariants as word
use Rattle.c_ast.specs.declared.key.Key.TheVariants as key
use Rattle.c_ast.specs.declared.mark.Mark.{Mark}
use Rattle.c_ast.specs.declared.mark.Mark.TheVariants as mark
use Rattle.c_ast.specs.declared.tree.Param.{Param}
use Rattle.c_ast.specs.declared.tree.Target.{Target}
use Rattle.c_ast.specs.declared.tree.Expr.{Expr}
use Rattle.c_ast.specs.declared.tree.Stmt.{Stmt}
use Rattle.c_ast.specs.Derives.{marked, keyed, named, numbered, between, if_tokens, DerivesType, DerivesExpr, DerivesIndices, DerivesArgs, DerivesMoreArgs, DerivesTarget, DerivesSimple, DerivesOption, DerivesStep, DerivesDeclared, DerivesDeclarators, DerivesFirst, DerivesStmt, DerivesItems, DerivesDims, DerivesParam, DerivesParamList, DerivesParams, DerivesResult}
use Rattle.c_ast.specs.ProgramTexts.{DerivesProgram}
use Rattle.c_parse.specs.declared.bar.Bar.TheVariants as bar
use Rattle.c_parse.specs.Symbols.{Symbol, Move, spelled, followed}
use Rattle.c_parse.proofs.EachToken.{NoneBarred}

-- ---- parts of a list of tokens

-- some value has these tokens
pub record Has {A : Type 0} (D : List Token → A → Type 0) (ts : List Token) : Type 0 where
  pub value : A
  pub derived : D ts value

pub record HasStmt (ts : List Token) : Type 0 where
  pub open_end : Bool
  pub value : Stmt
  pub derived : DerivesStmt open_end ts value

abbrev pub IsEmpty : List Token → Type 0
IsEmpty ts = ts ≡ []

pub data Joined (P Q : List Token → Type 0) : List Token → Type 0 where
  joined : (fs bs : List Token) → P fs → Q bs → Joined P Q (fs ++ bs)

abbrev pub token : Word → Span → Token
token w s = record { word = w; span = s }

-- one token
pub data Is (w : Word) : List Token → Type 0 where
  one : (s : Span) → Is w (token w s ∷ [])

pub data IsName : List Token → Type 0 where
  one : (x : List ℕ) (s : Span) → IsName (named x s ∷ [])

pub data IsNumber : List Token → Type 0 where
  one : (v : ℕ) (t : Ty) (s : Span) → IsNumber (numbered v t s ∷ [])

-- tokens before a mark, with it
pub data Before (m : Mark) (P : List Token → Type 0) : List Token → Type 0 where
  before : (ts : List Token) (s : Span) → P ts → Before m P (ts ++ marked m s ∷ [])

-- the statements of a helper, its return and what follows, with its closing brace
pub data HelperEnd : List Token → Type 0 where
  helper_end : (ts us : List Token) (r e y : Span) (body : List Stmt) (v : Expr) → DerivesItems ts body → NoneBarred bar.Returns ts → DerivesExpr 0 us v
      → HelperEnd (ts ++ keyed key.Return r ∷ (us ++ marked mark.Semicolon e ∷ marked mark.CloseBrace y ∷ []))

-- ---- what a symbol derives; of what only continues a part, that it continues one

-- the level of what stands before the operators of a level
abbrev pub base : ℕ → ℕ
base zero = 1
base (suc l) = suc l

abbrev pub Means : Symbol → List Token → Type 0
Means (Symbol.fixed n f) ts = Is (spelled f) ts
Means (Symbol.a_name n) ts = IsName ts
Means (Symbol.a_number n) ts = IsNumber ts
Means (Symbol.a_type n) ts = Has DerivesType ts
Means (Symbol.maybe_int n) ts = (s : Span) → Has DerivesType (keyed key.Signed s ∷ ts) × Has DerivesType (keyed key.Unsigned s ∷ ts)
Means (Symbol.expression n l) ts = l ≤ 11 → Has (DerivesExpr l) ts
Means (Symbol.inside n) ts = (s : Span) → Has (DerivesExpr 11) (marked mark.Open s ∷ ts)
Means (Symbol.operators n l) ts = (us : List Token) (a : Expr) → DerivesExpr (base l) us a → Has (DerivesExpr l) (us ++ ts)
Means (Symbol.indices n) ts = Has DerivesIndices ts
Means (Symbol.postfix n) ts = (x : List ℕ) (s : Span) → Has (DerivesExpr 11) (named x s ∷ ts)
Means (Symbol.arguments n) ts = Before mark.Close (Has DerivesArgs) ts
Means (Symbol.more_arguments n) ts = Has DerivesMoreArgs ts
Means (Symbol.simple n) ts = Has DerivesSimple ts
Means (Symbol.assigning n) ts = (us : List Token) (t : Target) → DerivesTarget us t → Has DerivesSimple (us ++ ts)
Means (Symbol.declared n) ts = (t : Ty) → Has (DerivesDeclared t) ts
Means (Symbol.value n) ts = (t : Ty) (x : List ℕ) (s : Span) → Has (DerivesDeclared t) (named x s ∷ ts)
Means (Symbol.more_declared n) ts = (t : Ty) (us : List Token) (d : Stmt) → DerivesDeclared t us d → Has (DerivesDeclarators t) (us ++ ts)
Means (Symbol.first n) ts = Has DerivesFirst ts
Means (Symbol.condition n) ts = Before mark.Semicolon (Has DerivesOption) ts
Means (Symbol.last n) ts = Before mark.Close (Has DerivesStep) ts
Means (Symbol.statement n) ts = HasStmt ts
Means (Symbol.other n) ts = (s a z : Span) (cs us : List Token) (c : Expr) → DerivesExpr 0 cs c → HasStmt us → HasStmt (if_tokens s a cs z us ++ ts)
Means (Symbol.body n) ts = Before mark.CloseBrace (Has DerivesItems) ts
Means (Symbol.result n) ts = Has DerivesResult ts
Means (Symbol.params n) ts = Before mark.Close (Has DerivesParams) ts
Means (Symbol.a_param n) ts = Has DerivesParam ts
Means (Symbol.more_params n) ts = (us : List Token) (p : Param) → DerivesParam us p → Has DerivesParamList (us ++ ts)
Means (Symbol.dims n) ts = Has DerivesDims ts
Means Symbol.program ts = Has DerivesProgram ts
Means (Symbol.helper_body n) ts = HelperEnd ts
Means (Symbol.without b s) ts = Means s ts × NoneBarred b ts
Means (Symbol.reduce r) ts = IsEmpty ts

abbrev pub Denotes : List Symbol → List Token → Type 0
Denotes [] ts = IsEmpty ts
Denotes (s ∷ symbols) ts = Joined (Means s) (Denotes symbols) ts

-- A move at a token serves P: what it takes begins tokens that have P. It passes over only what may be absent.
abbrev pub Serves : Bool → (List Token → Type 0) → Move → Token → Type 0
Serves b P Move.pass t = b ≡ true
Serves b P (Move.take n new) t = (us : List Token) → Denotes new us → P (t ∷ us)
Serves b P Move.stuck t = Unit {0}

-- ---- going over the parts

pub has : {A : Type 0} (D : List Token → A → Type 0) (ts : List Token) (x : A) → D ts x → Has D ts
has D ts x d = record { value = x; derived = d }

pub has_stmt : (f : Bool) (ts : List Token) (s : Stmt) → DerivesStmt f ts s → HasStmt ts
has_stmt f ts s d = record { open_end = f; value = s; derived = d }

pub both : {P Q : List Token → Type 0} (R : List Token → Type 0) (ts : List Token) → Joined P Q ts → ((fs bs : List Token) → P fs → Q bs → R (fs ++ bs)) → R ts
both R ts (Joined.joined fs bs p q) f = f fs bs p q

pub skip : {Q : List Token → Type 0} (ts : List Token) → Joined IsEmpty Q ts → Q ts
skip {Q} ts (Joined.joined fs bs p q) = subst (λ us. Q (us ++ bs)) (sym p) q

pub ends : (R : List Token → Type 0) (ts : List Token) → IsEmpty ts → R [] → R ts
ends R ts h r = subst R (sym h) r

pub last : {P : List Token → Type 0} (ts : List Token) → Joined P IsEmpty ts → P ts
last {P} ts (Joined.joined fs bs p q) = subst P (sym (ap (λ us. fs ++ us) q ∙ append-nil fs)) p

-- the last part before a reduction
pub last_reduced : {P : List Token → Type 0} (ts : List Token) → Joined P (Joined IsEmpty IsEmpty) ts → P ts
last_reduced {P} ts (Joined.joined fs bs p q) = subst P (sym (ap (λ us. fs ++ us) (skip bs q) ∙ append-nil fs)) p

pub after_word : {w : Word} {Q : List Token → Type 0} (R : List Token → Type 0) (ts : List Token) → Joined (Is w) Q ts → ((s : Span) (bs : List Token) → Q bs → R (token w s ∷ bs)) → R ts
after_word {w} {Q} R ts (Joined.joined fs bs p q) f = at_word fs p
  where
    at_word : (us : List Token) → Is w us → R (us ++ bs)
    at_word us (Is.one s) = f s bs q

pub after_name : {Q : List Token → Type 0} (R : List Token → Type 0) (ts : List Token) → Joined IsName Q ts → ((x : List ℕ) (s : Span) (bs : List Token) → Q bs → R (named x s ∷ bs)) → R ts
after_name {Q} R ts (Joined.joined fs bs p q) f = at_name fs p
  where
    at_name : (us : List Token) → IsName us → R (us ++ bs)
    at_name us (IsName.one x s) = f x s bs q

pub after_number : {Q : List Token → Type 0} (R : List Token → Type 0) (ts : List Token) → Joined IsNumber Q ts → ((v : ℕ) (t : Ty) (s : Span) (bs : List Token) → Q bs → R (numbered v t s ∷ bs)) → R ts
after_number {Q} R ts (Joined.joined fs bs p q) f = at_number fs p
  where
    at_number : (us : List Token) → IsNumber us → R (us ++ bs)
    at_number us (IsNumber.one v t s) = f v t s bs q

pub after_mark : {m : Mark} {P Q : List Token → Type 0} (R : List Token → Type 0) (ts : List Token) → Joined (Before m P) Q ts → ((us : List Token) (s : Span) (bs : List Token) → P us → Q bs → R (us ++ marked m s ∷ bs)) → R ts
after_mark {m} {P} {Q} R ts (Joined.joined fs bs p q) f = at_mark fs p
  where
    at_mark : (vs : List Token) → Before m P vs → R (vs ++ bs)
    at_mark vs (Before.before us s h) = subst R (sym (append_assoc us (marked m s ∷ []) bs)) (f us s bs h q)

pub by_word : {w : Word} (R : List Token → Type 0) (ts : List Token) → Is w ts → ((s : Span) → R (token w s ∷ [])) → R ts
by_word R ts (Is.one s) f = f s

pub by_mark : {m : Mark} {P : List Token → Type 0} (R : List Token → Type 0) (ts : List Token) → Before m P ts → ((us : List Token) (s : Span) → P us → R (us ++ marked m s ∷ [])) → R ts
by_mark R ts (Before.before us s h) f = f us s h

-- an expression in parentheses
pub after_group : (n : ℕ) {Q : List Token → Type 0} (R : List Token → Type 0) (ts : List Token) → Joined (Is (word.Mark mark.Open)) (Joined (Means (Symbol.expression n 0)) (Joined (Is (word.Mark mark.Close)) Q)) ts
    → ((a z : Span) (cs bs : List Token) (c : Expr) → DerivesExpr 0 cs c → Q bs → R (between mark.Open a cs mark.Close z ++ bs)) → R ts
after_group n {Q} R ts d f =
    after_word R ts d (λ a us d1. both (λ qs. R (marked mark.Open a ∷ qs)) us d1 (λ cs vs h d2. after_word (λ qs. R (marked mark.Open a ∷ (cs ++ qs))) vs d2
    (λ z bs q. let e : Has (DerivesExpr 0) cs = h zero-le in
    subst (λ qs. R (marked mark.Open a ∷ qs)) (append_assoc cs (marked mark.Close z ∷ []) bs) (f a z cs bs e.value e.derived q))))

-- ---- symbols in a row

pub denotes_apart : (xs ys : List Symbol) (ts : List Token) → Denotes (xs ++ ys) ts → Joined (Denotes xs) (Denotes ys) ts
denotes_apart [] ys ts d = Joined.joined [] ts refl d
denotes_apart (s ∷ xs) ys ts (Joined.joined fs bs p q) = behind bs (denotes_apart xs ys bs q)
  where
    behind : (us : List Token) → Joined (Denotes xs) (Denotes ys) us → Joined (Denotes (s ∷ xs)) (Denotes ys) (fs ++ us)
    behind us (Joined.joined cs ds r e) = subst (λ ws. Joined (Denotes (s ∷ xs)) (Denotes ys) ws) (append_assoc fs cs ds) (Joined.joined (fs ++ cs) ds (Joined.joined fs cs p r) e)

-- a symbol whose rule begins with another part, which may not be absent
pub serves_followed : (P Q : List Token → Type 0) (b : Bool) (more : List Symbol) (m : Move) (t : Token) → ((fs bs : List Token) → P fs → Denotes more bs → Q (fs ++ bs)) → Serves false P m t → Serves b Q (followed m more) t
serves_followed P Q b more Move.pass t f h = absurd (cc)
serves_followed P Q b more (Move.take n new) t f h = λ us d. both (λ ws. Q (t ∷ ws)) us (denotes_apart new more us d) (λ fs bs p q. f (t ∷ fs) bs (h fs p) q)
serves_followed P Q b more Move.stuck t f h = tt

pub serves_as : (P Q : List Token → Type 0) (b : Bool) (m : Move) (t : Token) → ((us : List Token) → P us → Q us) → Serves b P m t → Serves b Q m t
serves_as P Q b Move.pass t f h = h
serves_as P Q b (Move.take n new) t f h = λ us d. f (t ∷ us) (h us d)
serves_as P Q b Move.stuck t f h = tt
