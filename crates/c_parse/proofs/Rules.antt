-- Each rule of the grammar, over what was read.
use Rattle.std.proofs.Common.{◌≡◌, ℕ, suc, ◌+◌, ◌<◌, List, [], ◌∷◌, ◌++◌, length, ◌==◌, Bool, true, false, Option, Some, None, Result, Ok, Err, IfOk, IfSome, IfNone, rules, arith, refl, sym, ◌∙◌, ap, subst, append_assoc}
use Rattle.std.proofs.lemmas.List.{append-nil}
use Rattle.std.proofs.lemmas.Option.{same_Some}
use Rattle.el_base.specs.declared.span.Span.{Span}
use Rattle.el_base.specs.declared.ty.Ty.{Ty}
use Rattle.el_base.specs.declared.ty.Ty.TheVariants.{I8, U8, I16, U16, I32, U32, I64, U64}
use Rattle.c_ast.specs.declared.token.Token.{Token}
use Rattle.c_ast.specs.declared.token.Word.{Word}
use Rattle.c_ast.specs.declared.token.Word.TheVariants as word
use Rattle.c_ast.specs.declared.key.Key.{Key}
use Rattle.c_ast.specs.declared.key.Key.TheVariants as key
use Rattle.c_ast.specs.declared.mark.Mark.{Mark}
use Rattle.c_ast.specs.declared.mark.Mark.TheVariants as mark
use Rattle.c_ast.specs.declared.tree.Unary.{Unary}
use Rattle.c_ast.specs.declared.tree.Unary.TheVariants as unary
use Rattle.c_ast.specs.declared.tree.Binary.{Binary}
use Rattle.c_ast.specs.declared.tree.Binary.TheVariants as binary
use Rattle.c_ast.specs.declared.tree.Expr.{Expr}
use Rattle.c_ast.specs.declared.tree.ExprKind.{ExprKind}
use Rattle.c_ast.specs.declared.tree.ExprKind.TheVariants as expr
use Rattle.c_ast.specs.Derives.{marked, keyed, named, place_of, expr_of, between, IsBinary, IsUnary, IsAssigning, IsStep, DerivesType, DerivesExpr, DerivesIndices}
use Rattle.c_parse.specs.Tables.{operator_of, sign_of, assigning_of, step_of, plain_type, takes_int}
use Rattle.c_parse.specs.Reads.{Reads, Operates, Signs, Assigns, Steps, NamesType, MaySkip, InParens, InBrackets, InCall, key_at}

-- ---- lists

pub heads : (t : Token) (us before mid after : List Token) → before ≡ t ∷ mid → mid ≡ us ++ after → before ≡ (t ∷ us) ++ after
heads t us before mid after p q = p ∙ ap (λ v. t ∷ v) q

pub joins : (us vs before mid after : List Token) → before ≡ us ++ mid → mid ≡ vs ++ after → before ≡ (us ++ vs) ++ after
joins us vs before mid after p q = p ∙ ap (λ v. us ++ v) q ∙ sym (append_assoc us vs after)

pub enclose : (t z : Token) (us before mid late after : List Token) → before ≡ t ∷ mid → mid ≡ us ++ late → late ≡ z ∷ after → before ≡ (t ∷ (us ++ z ∷ [])) ++ after
enclose t z us before mid late after p q r = heads t (us ++ z ∷ []) before mid after p (joins us (z ∷ []) mid late after q r)

-- ---- tokens

abbrev spelled : Word → Token → Token
spelled w t = record { word = w; span = t.span }

pub token_of : (t : Token) (w : Word) → t.word ≡ w → t ≡ record { word = w; span = t.span }
token_of t w is = ap (λ v. spelled v t) is

-- the place of a node is that of what was read for it
abbrev pub Placed : Span → List Token → List Token → Type 0
Placed at before after = (used : List Token) → before ≡ used ++ after → at ≡ place_of used

-- ---- tables

pub plain_derives : (k : Key) (t : Ty) (s : Span) → plain_type k ≡ Some t → DerivesType (keyed k s ∷ []) t
plain_derives key.Int8 t s e = let h : I8 ≡ t = cc in subst (λ u. DerivesType (keyed key.Int8 s ∷ []) u) h (DerivesType.fixed_8 s)
plain_derives key.Int16 t s e = let h : I16 ≡ t = cc in subst (λ u. DerivesType (keyed key.Int16 s ∷ []) u) h (DerivesType.fixed_16 s)
plain_derives key.Int32 t s e = let h : I32 ≡ t = cc in subst (λ u. DerivesType (keyed key.Int32 s ∷ []) u) h (DerivesType.fixed_32 s)
plain_derives key.Int64 t s e = let h : I64 ≡ t = cc in subst (λ u. DerivesType (keyed key.Int64 s ∷ []) u) h (DerivesType.fixed_64 s)
plain_derives key.Uint8 t s e = let h : U8 ≡ t = cc in subst (λ u. DerivesType (keyed key.Uint8 s ∷ []) u) h (DerivesType.unsigned_8 s)
plain_derives key.Uint16 t s e = let h : U16 ≡ t = cc in subst (λ u. DerivesType (keyed key.Uint16 s ∷ []) u) h (DerivesType.unsigned_16 s)
plain_derives key.Uint32 t s e = let h : U32 ≡ t = cc in subst (λ u. DerivesType (keyed key.Uint32 s ∷ []) u) h (DerivesType.unsigned_32 s)
plain_derives key.Uint64 t s e = let h : U64 ≡ t = cc in subst (λ u. DerivesType (keyed key.Uint64 s ∷ []) u) h (DerivesType.unsigned_64 s)
plain_derives key.Int t s e = let h : I32 ≡ t = cc in subst (λ u. DerivesType (keyed key.Int s ∷ []) u) h (DerivesType.plain_int s)
plain_derives key.Signed t s e = let h : I32 ≡ t = cc in subst (λ u. DerivesType (keyed key.Signed s ∷ []) u) h (DerivesType.plain_signed s)
plain_derives key.Unsigned t s e = let h : U32 ≡ t = cc in subst (λ u. DerivesType (keyed key.Unsigned s ∷ []) u) h (DerivesType.plain_unsigned s)
plain_derives k t s e = absurd (cc)

pub operator_is : (m : Mark) (op : Binary) (l : ℕ) → operator_of m ≡ Some (op, l) → IsBinary m op l
operator_is mark.OrOr op l e = let p : (binary.Either, 1) ≡ (op, l) = same_Some {A = Binary × ℕ} (binary.Either, 1) (op, l) e in let a : binary.Either ≡ op = ap (λ q. q.0) p in let b : 1 ≡ l = ap (λ q. q.1) p in subst (λ x. IsBinary mark.OrOr x l) a (subst (λ n. IsBinary mark.OrOr binary.Either n) b IsBinary.or_else)
operator_is mark.AndAnd op l e = let p : (binary.Both, 2) ≡ (op, l) = same_Some {A = Binary × ℕ} (binary.Both, 2) (op, l) e in let a : binary.Both ≡ op = ap (λ q. q.0) p in let b : 2 ≡ l = ap (λ q. q.1) p in subst (λ x. IsBinary mark.AndAnd x l) a (subst (λ n. IsBinary mark.AndAnd binary.Both n) b IsBinary.and_also)
operator_is mark.Bar op l e = let p : (binary.Or, 3) ≡ (op, l) = same_Some {A = Binary × ℕ} (binary.Or, 3) (op, l) e in let a : binary.Or ≡ op = ap (λ q. q.0) p in let b : 3 ≡ l = ap (λ q. q.1) p in subst (λ x. IsBinary mark.Bar x l) a (subst (λ n. IsBinary mark.Bar binary.Or n) b IsBinary.bits_or)
operator_is mark.Caret op l e = let p : (binary.Xor, 4) ≡ (op, l) = same_Some {A = Binary × ℕ} (binary.Xor, 4) (op, l) e in let a : binary.Xor ≡ op = ap (λ q. q.0) p in let b : 4 ≡ l = ap (λ q. q.1) p in subst (λ x. IsBinary mark.Caret x l) a (subst (λ n. IsBinary mark.Caret binary.Xor n) b IsBinary.bits_xor)
operator_is mark.Ampersand op l e = let p : (binary.And, 5) ≡ (op, l) = same_Some {A = Binary × ℕ} (binary.And, 5) (op, l) e in let a : binary.And ≡ op = ap (λ q. q.0) p in let b : 5 ≡ l = ap (λ q. q.1) p in subst (λ x. IsBinary mark.Ampersand x l) a (subst (λ n. IsBinary mark.Ampersand binary.And n) b IsBinary.bits_and)
operator_is mark.EqualEqual op l e = let p : (binary.Eq, 6) ≡ (op, l) = same_Some {A = Binary × ℕ} (binary.Eq, 6) (op, l) e in let a : binary.Eq ≡ op = ap (λ q. q.0) p in let b : 6 ≡ l = ap (λ q. q.1) p in subst (λ x. IsBinary mark.EqualEqual x l) a (subst (λ n. IsBinary mark.EqualEqual binary.Eq n) b IsBinary.equal)
operator_is mark.NotEqual op l e = let p : (binary.Ne, 6) ≡ (op, l) = same_Some {A = Binary × ℕ} (binary.Ne, 6) (op, l) e in let a : binary.Ne ≡ op = ap (λ q. q.0) p in let b : 6 ≡ l = ap (λ q. q.1) p in subst (λ x. IsBinary mark.NotEqual x l) a (subst (λ n. IsBinary mark.NotEqual binary.Ne n) b IsBinary.unequal)
operator_is mark.Less op l e = let p : (binary.Lt, 7) ≡ (op, l) = same_Some {A = Binary × ℕ} (binary.Lt, 7) (op, l) e in let a : binary.Lt ≡ op = ap (λ q. q.0) p in let b : 7 ≡ l = ap (λ q. q.1) p in subst (λ x. IsBinary mark.Less x l) a (subst (λ n. IsBinary mark.Less binary.Lt n) b IsBinary.less)
operator_is mark.Greater op l e = let p : (binary.Gt, 7) ≡ (op, l) = same_Some {A = Binary × ℕ} (binary.Gt, 7) (op, l) e in let a : binary.Gt ≡ op = ap (λ q. q.0) p in let b : 7 ≡ l = ap (λ q. q.1) p in subst (λ x. IsBinary mark.Greater x l) a (subst (λ n. IsBinary mark.Greater binary.Gt n) b IsBinary.greater)
operator_is mark.LessEqual op l e = let p : (binary.Le, 7) ≡ (op, l) = same_Some {A = Binary × ℕ} (binary.Le, 7) (op, l) e in let a : binary.Le ≡ op = ap (λ q. q.0) p in let b : 7 ≡ l = ap (λ q. q.1) p in subst (λ x. IsBinary mark.LessEqual x l) a (subst (λ n. IsBinary mark.LessEqual binary.Le n) b IsBinary.at_most)
operator_is mark.GreaterEqual op l e = let p : (binary.Ge, 7) ≡ (op, l) = same_Some {A = Binary × ℕ} (binary.Ge, 7) (op, l) e in let a : binary.Ge ≡ op = ap (λ q. q.0) p in let b : 7 ≡ l = ap (λ q. q.1) p in subst (λ x. IsBinary mark.GreaterEqual x l) a (subst (λ n. IsBinary mark.GreaterEqual binary.Ge n) b IsBinary.at_least)
operator_is mark.Shl op l e = let p : (binary.Shl, 8) ≡ (op, l) = same_Some {A = Binary × ℕ} (binary.Shl, 8) (op, l) e in let a : binary.Shl ≡ op = ap (λ q. q.0) p in let b : 8 ≡ l = ap (λ q. q.1) p in subst (λ x. IsBinary mark.Shl x l) a (subst (λ n. IsBinary mark.Shl binary.Shl n) b IsBinary.left_shift)
operator_is mark.Shr op l e = let p : (binary.Shr, 8) ≡ (op, l) = same_Some {A = Binary × ℕ} (binary.Shr, 8) (op, l) e in let a : binary.Shr ≡ op = ap (λ q. q.0) p in let b : 8 ≡ l = ap (λ q. q.1) p in subst (λ x. IsBinary mark.Shr x l) a (subst (λ n. IsBinary mark.Shr binary.Shr n) b IsBinary.right_shift)
operator_is mark.Plus op l e = let p : (binary.Add, 9) ≡ (op, l) = same_Some {A = Binary × ℕ} (binary.Add, 9) (op, l) e in let a : binary.Add ≡ op = ap (λ q. q.0) p in let b : 9 ≡ l = ap (λ q. q.1) p in subst (λ x. IsBinary mark.Plus x l) a (subst (λ n. IsBinary mark.Plus binary.Add n) b IsBinary.plus)
operator_is mark.Minus op l e = let p : (binary.Sub, 9) ≡ (op, l) = same_Some {A = Binary × ℕ} (binary.Sub, 9) (op, l) e in let a : binary.Sub ≡ op = ap (λ q. q.0) p in let b : 9 ≡ l = ap (λ q. q.1) p in subst (λ x. IsBinary mark.Minus x l) a (subst (λ n. IsBinary mark.Minus binary.Sub n) b IsBinary.minus)
operator_is mark.Star op l e = let p : (binary.Mul, 10) ≡ (op, l) = same_Some {A = Binary × ℕ} (binary.Mul, 10) (op, l) e in let a : binary.Mul ≡ op = ap (λ q. q.0) p in let b : 10 ≡ l = ap (λ q. q.1) p in subst (λ x. IsBinary mark.Star x l) a (subst (λ n. IsBinary mark.Star binary.Mul n) b IsBinary.times)
operator_is mark.Slash op l e = let p : (binary.Div, 10) ≡ (op, l) = same_Some {A = Binary × ℕ} (binary.Div, 10) (op, l) e in let a : binary.Div ≡ op = ap (λ q. q.0) p in let b : 10 ≡ l = ap (λ q. q.1) p in subst (λ x. IsBinary mark.Slash x l) a (subst (λ n. IsBinary mark.Slash binary.Div n) b IsBinary.divided)
operator_is mark.Percent op l e = let p : (binary.Rem, 10) ≡ (op, l) = same_Some {A = Binary × ℕ} (binary.Rem, 10) (op, l) e in let a : binary.Rem ≡ op = ap (λ q. q.0) p in let b : 10 ≡ l = ap (λ q. q.1) p in subst (λ x. IsBinary mark.Percent x l) a (subst (λ n. IsBinary mark.Percent binary.Rem n) b IsBinary.modulo)
operator_is m op l e = absurd (cc)

pub sign_is : (m : Mark) (op : Unary) → sign_of m ≡ Some op → IsUnary m op
sign_is mark.Plus op e = let a : unary.Plus ≡ op = cc in subst (λ x. IsUnary mark.Plus x) a IsUnary.plus
sign_is mark.Minus op e = let a : unary.Minus ≡ op = cc in subst (λ x. IsUnary mark.Minus x) a IsUnary.minus
sign_is mark.Tilde op e = let a : unary.Flip ≡ op = cc in subst (λ x. IsUnary mark.Tilde x) a IsUnary.flip
sign_is mark.Bang op e = let a : unary.Not ≡ op = cc in subst (λ x. IsUnary mark.Bang x) a IsUnary.negate
sign_is m op e = absurd (cc)

pub assigning_is : (m : Mark) (op : Option Binary) → assigning_of m ≡ Some op → IsAssigning m op
assigning_is mark.Assign op e = let a : None ≡ op = cc in subst (λ x. IsAssigning mark.Assign x) a IsAssigning.plain
assigning_is mark.MulAssign op e = let a : Some binary.Mul ≡ op = cc in subst (λ x. IsAssigning mark.MulAssign x) a IsAssigning.times
assigning_is mark.DivAssign op e = let a : Some binary.Div ≡ op = cc in subst (λ x. IsAssigning mark.DivAssign x) a IsAssigning.divided
assigning_is mark.RemAssign op e = let a : Some binary.Rem ≡ op = cc in subst (λ x. IsAssigning mark.RemAssign x) a IsAssigning.modulo
assigning_is mark.AddAssign op e = let a : Some binary.Add ≡ op = cc in subst (λ x. IsAssigning mark.AddAssign x) a IsAssigning.plus
assigning_is mark.SubAssign op e = let a : Some binary.Sub ≡ op = cc in subst (λ x. IsAssigning mark.SubAssign x) a IsAssigning.minus
assigning_is mark.ShlAssign op e = let a : Some binary.Shl ≡ op = cc in subst (λ x. IsAssigning mark.ShlAssign x) a IsAssigning.left_shift
assigning_is mark.ShrAssign op e = let a : Some binary.Shr ≡ op = cc in subst (λ x. IsAssigning mark.ShrAssign x) a IsAssigning.right_shift
assigning_is mark.AndAssign op e = let a : Some binary.And ≡ op = cc in subst (λ x. IsAssigning mark.AndAssign x) a IsAssigning.bits_and
assigning_is mark.XorAssign op e = let a : Some binary.Xor ≡ op = cc in subst (λ x. IsAssigning mark.XorAssign x) a IsAssigning.bits_xor
assigning_is mark.OrAssign op e = let a : Some binary.Or ≡ op = cc in subst (λ x. IsAssigning mark.OrAssign x) a IsAssigning.bits_or
assigning_is m op e = absurd (cc)

pub step_is : (m : Mark) (up : Bool) → step_of m ≡ Some up → IsStep m up
step_is mark.Increment up e = let a : true ≡ up = cc in subst (λ x. IsStep mark.Increment x) a IsStep.up
step_is mark.Decrement up e = let a : false ≡ up = cc in subst (λ x. IsStep mark.Decrement x) a IsStep.down
step_is m up e = absurd (cc)

-- the tokens of operators
marks : (t : Token) (m : Mark) (before after : List Token) → before ≡ t ∷ after → t.word ≡ word.Mark m → before ≡ marked m t.span ∷ after
marks t m before after p is = p ∙ ap (λ u. u ∷ after) (token_of t (word.Mark m) is)

pub operates : (t : Token) (m : Mark) (op : Binary) (tier l : ℕ) (before after : List Token) → before ≡ t ∷ after → t.word ≡ word.Mark m → operator_of m ≡ Some (op, tier) → tier ≡ l → Operates op l before after
operates t m op tier l before after p is e same = record { mark = m; place = t.span; split = marks t m before after p is; operator = subst (λ n. IsBinary m op n) same (operator_is m op tier e) }

pub signs : (t : Token) (m : Mark) (op : Unary) (before after : List Token) → before ≡ t ∷ after → t.word ≡ word.Mark m → sign_of m ≡ Some op → Signs op t.span before after
signs t m op before after p is e = record { mark = m; split = marks t m before after p is; operator = sign_is m op e }

pub assigns : (t : Token) (m : Mark) (op : Option Binary) (before after : List Token) → before ≡ t ∷ after → t.word ≡ word.Mark m → assigning_of m ≡ Some op → Assigns op before after
assigns t m op before after p is e = record { mark = m; place = t.span; split = marks t m before after p is; operator = assigning_is m op e }

pub steps : (t : Token) (m : Mark) (up : Bool) (before after : List Token) → before ≡ t ∷ after → t.word ≡ word.Mark m → step_of m ≡ Some up → Steps up before after
steps t m up before after p is e = record { mark = m; place = t.span; split = marks t m before after p is; operator = step_is m up e }

-- ---- types

pub reads_type_word : (k : Key) (ty : Ty) (before after : List Token) → NamesType k ty before after → Reads (λ ts. DerivesType ts ty) before after
reads_type_word k ty before after w = record { used = keyed k w.place ∷ []; split = w.split; derived = plain_derives k ty w.place w.type }

-- an int behind a word that it may follow
int_derives : (k : Key) (t : Ty) (s z : Span) → plain_type k ≡ Some t → takes_int k ≡ true → DerivesType (keyed k s ∷ keyed key.Int z ∷ []) t
int_derives key.Signed t s z e may = let h : I32 ≡ t = cc in subst (λ u. DerivesType (keyed key.Signed s ∷ keyed key.Int z ∷ []) u) h (DerivesType.signed_int s z)
int_derives key.Unsigned t s z e may = let h : U32 ≡ t = cc in subst (λ u. DerivesType (keyed key.Unsigned s ∷ keyed key.Int z ∷ []) u) h (DerivesType.unsigned_int s z)
int_derives k t s z e may = absurd (cc)

pub reads_with_int : (k : Key) (ty : Ty) (before mid after : List Token) → NamesType k ty before mid → takes_int k ≡ true → MaySkip mid after → Reads (λ ts. DerivesType ts ty) before after
reads_with_int k ty before mid after w may (MaySkip.none q other) = record { used = keyed k w.place ∷ []; split = w.split ∙ ap (λ v. keyed k w.place ∷ v) q; derived = plain_derives k ty w.place w.type }
reads_with_int k ty before mid after w may (MaySkip.int z q) = record { used = keyed k w.place ∷ keyed key.Int z ∷ []; split = w.split ∙ ap (λ v. keyed k w.place ∷ v) q; derived = int_derives k ty w.place z w.type may }

-- ---- expressions

placed : (l : ℕ) (kind : ExprKind) (at : Span) (used : List Token) → at ≡ place_of used → DerivesExpr l used (expr_of kind used) → DerivesExpr l used (record { kind = kind; at = at })
placed l kind at used e d = subst (λ p. DerivesExpr l used (record { kind = kind; at = p })) (sym e) d

pub reads_tighter : (l k : ℕ) (e : Expr) (before after : List Token) → k ≡ l + 1 → l < 12 → Reads (λ ts. DerivesExpr k ts e) before after → Reads (λ ts. DerivesExpr l ts e) before after
reads_tighter l k e before after next below r =
    let next' : k ≡ suc l = omega arith in
    record { used = r.used; split = r.split; derived = DerivesExpr.tighter l r.used e below (subst (λ n. DerivesExpr n r.used e) next' r.derived) }

pub reads_choice : (a b d : Expr) (kind : ExprKind) (at q c : Span) (before m1 m2 m3 m4 after : List Token)
    → Reads (λ ts. DerivesExpr 1 ts a) before m1 → m1 ≡ marked mark.Question q ∷ m2 → Reads (λ ts. DerivesExpr 0 ts b) m2 m3 → m3 ≡ marked mark.Colon c ∷ m4
    → Reads (λ ts. DerivesExpr 0 ts d) m4 after → kind ≡ expr.Choose a b d → Placed at before after → Reads (λ ts. DerivesExpr 0 ts (record { kind = kind; at = at })) before after
reads_choice a b d kind at q c before m1 m2 m3 m4 after r1 p1 r2 p2 r3 e place =
    let tail : List Token = r2.used ++ marked mark.Colon c ∷ r3.used in
    let used : List Token = r1.used ++ marked mark.Question q ∷ tail in
    let split : before ≡ used ++ after = joins r1.used (marked mark.Question q ∷ tail) before m1 after r1.split
    (heads (marked mark.Question q) tail m1 m2 after p1 (joins r2.used (marked mark.Colon c ∷ r3.used) m2 m3 after r2.split (heads (marked mark.Colon c) r3.used m3 m4 after p2 r3.split))) in
    record {
      used = used;
      split = split;
      derived = subst (λ k. DerivesExpr 0 used (record { kind = k; at = at })) (sym e)
          (placed 0 (expr.Choose a b d) at used (place used split) (DerivesExpr.choice r1.used r2.used r3.used q c a b d r1.derived r2.derived r3.derived));
    }

pub reads_joined : (l k : ℕ) (op : Binary) (a b : Expr) (kind : ExprKind) (at : Span) (before m1 m2 after : List Token)
    → Reads (λ ts. DerivesExpr l ts a) before m1 → Operates op l m1 m2 → Reads (λ ts. DerivesExpr k ts b) m2 after → k ≡ l + 1 → kind ≡ expr.Binary op a b → Placed at before after
    → Reads (λ ts. DerivesExpr l ts (record { kind = kind; at = at })) before after
reads_joined l k op a b kind at before m1 m2 after r1 o r2 next e place =
    let next' : k ≡ suc l = omega arith in
    let used : List Token = r1.used ++ marked o.mark o.place ∷ r2.used in
    let split : before ≡ used ++ after = joins r1.used (marked o.mark o.place ∷ r2.used) before m1 after r1.split (heads (marked o.mark o.place) r2.used m1 m2 after o.split r2.split) in
    record {
      used = used;
      split = split;
      derived = subst (λ x. DerivesExpr l used (record { kind = x; at = at })) (sym e)
          (placed l (expr.Binary op a b) at used (place used split)
          (DerivesExpr.joined l o.mark op r1.used r2.used o.place a b o.operator r1.derived (subst (λ n. DerivesExpr n r2.used b) next' r2.derived)));
    }

primary : (ts : List Token) (e : Expr) → DerivesExpr 12 ts e → DerivesExpr 11 ts e
primary ts e d = DerivesExpr.tighter 11 ts e (omega arith) d

pub reads_constant : (t : Token) (n : ℕ) (ty : Ty) (before after : List Token) → before ≡ t ∷ after → t.word ≡ word.Number n ty
    → Reads (λ ts. DerivesExpr 11 ts (record { kind = expr.Number n ty; at = t.span })) before after
reads_constant t n ty before after p is = record {
  used = t ∷ [];
  split = p;
  derived = primary (t ∷ []) (record { kind = expr.Number n ty; at = t.span })
      (subst (λ u. DerivesExpr 12 (u ∷ []) (record { kind = expr.Number n ty; at = t.span })) (sym (token_of t (word.Number n ty) is)) (DerivesExpr.number n ty t.span));
}

no_indices : (ts : List Token) (es : List Expr) → es ≡ [] → DerivesIndices ts es → ts ≡ []
no_indices ts es h DerivesIndices.no_more = refl
no_indices ts es h (DerivesIndices.one_more us vs s z e rest d ds) = absurd (cc)

pub reads_name : (x : List ℕ) (s at : Span) (es : List Expr) (before mid after : List Token) → before ≡ named x s ∷ mid → Reads (λ ts. DerivesIndices ts es) mid after → es ≡ [] → Placed at before after
    → Reads (λ ts. DerivesExpr 11 ts (record { kind = expr.Name x; at = at })) before after
reads_name x s at es before mid after p r none place =
    let alone : r.used ≡ [] = no_indices r.used es none r.derived in
    let split : before ≡ (named x s ∷ []) ++ after = p ∙ ap (λ v. named x s ∷ v) (r.split ∙ ap (λ us. us ++ after) alone) in
    record { used = named x s ∷ []; split = split; derived = primary (named x s ∷ []) (record { kind = expr.Name x; at = at }) (placed 12 (expr.Name x) at (named x s ∷ []) (place (named x s ∷ []) split) (DerivesExpr.name x s)) }

pub reads_element : (x : List ℕ) (s at : Span) (es : List Expr) (before mid after : List Token) → before ≡ named x s ∷ mid → Reads (λ ts. DerivesIndices ts es) mid after → (es ≡ [] → ⊥) → Placed at before after
    → Reads (λ ts. DerivesExpr 11 ts (record { kind = expr.Element x es; at = at })) before after
reads_element x s at [] before mid after p r some place = absurd (some refl)
reads_element x s at (e ∷ es) before mid after p r some place =
    let used : List Token = named x s ∷ r.used in
    let split : before ≡ used ++ after = heads (named x s) r.used before mid after p r.split in
    record {
      used = used;
      split = split;
      derived = primary used (record { kind = expr.Element x (e ∷ es); at = at })
          (placed 12 (expr.Element x (e ∷ es)) at used (place used split) (DerivesExpr.element x s r.used e es r.derived));
    }

in_call : (x : List ℕ) (s : Span) (ts : List Token) (es : List Expr) → InCall ts es → DerivesExpr 12 (named x s ∷ ts) (expr_of (expr.Call x es) (named x s ∷ ts))
in_call x s ts es (InCall.in_call us a z xs d) = DerivesExpr.call x s a z us xs d

pub reads_call : (x : List ℕ) (s at : Span) (es : List Expr) (before mid after : List Token) → before ≡ named x s ∷ mid → Reads (λ ts. InCall ts es) mid after → Placed at before after
    → Reads (λ ts. DerivesExpr 11 ts (record { kind = expr.Call x es; at = at })) before after
reads_call x s at es before mid after p r place =
    let used : List Token = named x s ∷ r.used in
    let split : before ≡ used ++ after = heads (named x s) r.used before mid after p r.split in
    record {
      used = used;
      split = split;
      derived = primary used (record { kind = expr.Call x es; at = at }) (placed 12 (expr.Call x es) at used (place used split) (in_call x s r.used es r.derived));
    }

pub reads_unary : (op : Unary) (s at : Span) (a b : Expr) (before mid after : List Token) → Signs op s before mid → Reads (λ ts. DerivesExpr 11 ts a) mid after → b ≡ a → Placed at before after
    → Reads (λ ts. DerivesExpr 11 ts (record { kind = expr.Unary op b; at = at })) before after
reads_unary op s at a b before mid after o r same place =
    let used : List Token = marked o.mark s ∷ r.used in
    let split : before ≡ used ++ after = heads (marked o.mark s) r.used before mid after o.split r.split in
    record {
      used = used;
      split = split;
      derived = subst (λ x. DerivesExpr 11 used (record { kind = expr.Unary op x; at = at })) (sym same)
          (placed 11 (expr.Unary op a) at used (place used split) (DerivesExpr.prefixed o.mark op r.used s a o.operator r.derived));
    }

pub reads_cast : (ty : Ty) (s z at : Span) (a b : Expr) (before m1 m2 m3 after : List Token)
    → before ≡ marked mark.Open s ∷ m1 → Reads (λ ts. DerivesType ts ty) m1 m2 → m2 ≡ marked mark.Close z ∷ m3 → Reads (λ ts. DerivesExpr 11 ts a) m3 after → b ≡ a → Placed at before after
    → Reads (λ ts. DerivesExpr 11 ts (record { kind = expr.Cast ty b; at = at })) before after
reads_cast ty s z at a b before m1 m2 m3 after p1 r1 p2 r2 same place =
    let front : List Token = between mark.Open s r1.used mark.Close z in
    let used : List Token = front ++ r2.used in
    let split : before ≡ used ++ after = joins front r2.used before m3 after (enclose (marked mark.Open s) (marked mark.Close z) r1.used before m1 m2 m3 p1 r1.split p2) r2.split in
    record {
      used = used;
      split = split;
      derived = subst (λ x. DerivesExpr 11 used (record { kind = expr.Cast ty x; at = at })) (sym same)
          (placed 11 (expr.Cast ty a) at used (place used split) (DerivesExpr.cast r1.used r2.used s z ty a r1.derived r2.derived));
    }

pub reads_parens : (s z : Span) (e : Expr) (before m1 m2 after : List Token) → before ≡ marked mark.Open s ∷ m1 → Reads (λ ts. DerivesExpr 0 ts e) m1 m2 → m2 ≡ marked mark.Close z ∷ after
    → Reads (λ ts. InParens ts e) before after
reads_parens s z e before m1 m2 after p r q = record {
  used = between mark.Open s r.used mark.Close z;
  split = enclose (marked mark.Open s) (marked mark.Close z) r.used before m1 m2 after p r.split q;
  derived = InParens.in_parens r.used s z e r.derived;
}

in_parens : (ts : List Token) (e : Expr) → InParens ts e → DerivesExpr 11 ts e
in_parens ts e (InParens.in_parens us s z x d) = primary (between mark.Open s us mark.Close z) x (DerivesExpr.parens us s z x d)

pub reads_group : (e : Expr) (before after : List Token) → Reads (λ ts. InParens ts e) before after → Reads (λ ts. DerivesExpr 11 ts e) before after
reads_group e before after r = record { used = r.used; split = r.split; derived = in_parens r.used e r.derived }

pub reads_brackets : (s z : Span) (e : Expr) (before m1 m2 after : List Token) → before ≡ marked mark.OpenBracket s ∷ m1 → Reads (λ ts. DerivesExpr 0 ts e) m1 m2 → m2 ≡ marked mark.CloseBracket z ∷ after
    → Reads (λ ts. InBrackets ts e) before after
reads_brackets s z e before m1 m2 after p r q = record {
  used = between mark.OpenBracket s r.used mark.CloseBracket z;
  split = enclose (marked mark.OpenBracket s) (marked mark.CloseBracket z) r.used before m1 m2 after p r.split q;
  derived = InBrackets.in_brackets r.used s z e r.derived;
}

pub reads_no_indices : (es : List Expr) (before : List Token) → es ≡ [] → Reads (λ ts. DerivesIndices ts es) before before
reads_no_indices es before h = record { used = []; split = refl; derived = subst (λ x. DerivesIndices [] x) (sym h) DerivesIndices.no_more }

-- one index more, behind the others
index_after : (ts us : List Token) (es : List Expr) (e : Expr) → DerivesIndices ts es → InBrackets us e → DerivesIndices (ts ++ us) (es ++ e ∷ [])
index_after ts us es e DerivesIndices.no_more (InBrackets.in_brackets vs s z x d) =
    subst (λ ws. DerivesIndices ws (x ∷ [])) (append-nil (between mark.OpenBracket s vs mark.CloseBracket z)) (DerivesIndices.one_more vs [] s z x [] d DerivesIndices.no_more)
index_after ts us es e (DerivesIndices.one_more vs ws s z x xs d ds) b =
    subst (λ qs. DerivesIndices qs (x ∷ (xs ++ e ∷ []))) (sym (append_assoc (between mark.OpenBracket s vs mark.CloseBracket z) ws us))
    (DerivesIndices.one_more vs (ws ++ us) s z x (xs ++ e ∷ []) d (index_after ws us xs e ds b))

pub reads_index_after : (es new : List Expr) (e : Expr) (before mid after : List Token) → Reads (λ ts. DerivesIndices ts es) before mid → Reads (λ ts. InBrackets ts e) mid after → new ≡ es ++ e ∷ []
    → Reads (λ ts. DerivesIndices ts new) before after
reads_index_after es new e before mid after r1 r2 grown = record {
  used = r1.used ++ r2.used;
  split = joins r1.used r2.used before mid after r1.split r2.split;
  derived = subst (λ x. DerivesIndices (r1.used ++ r2.used) x) (sym grown) (index_after r1.used r2.used es e r1.derived r2.derived);
}

-- ---- what is passed on

pub if_ok : {A E : Type 0} (P Q : A → Type 0) (r : Result A E) → ((x : A) → P x → Q x) → IfOk r P → IfOk r Q
if_ok P Q (Ok x) f h = f x h
if_ok P Q (Err e) f h = h

pub no_items : {A : Type 0} (xs : List A) → (length xs == 0) ≡ true → xs ≡ []
no_items [] h = refl
no_items (x ∷ xs) h = absurd (search (rules, h))

pub some_items : {A : Type 0} (xs : List A) → (length xs == 0) ≡ false → xs ≡ [] → ⊥
some_items xs h none = let e : (0 == 0) ≡ false = subst (λ ys. (length ys == 0) ≡ false) none h in absurd (search (rules, e))

pub skips_int : (r : Option Span) (before after : List Token) → IfSome r (λ s. before ≡ keyed key.Int s ∷ after) → IfNone r (after ≡ before) → IfNone r (key_at before ≡ Some key.Int → ⊥) → MaySkip before after
skips_int (Some s) before after some none other = MaySkip.int s some
skips_int None before after some none other = MaySkip.none (sym none) other

pub reads_same : (D : List Token → Type 0) (before mid after : List Token) → Reads D before mid → after ≡ mid → Reads D before after
reads_same D before mid after r same = subst (λ us. Reads D before us) (sym same) r

-- what was read lies in a box
pub reads_boxed : {A : Type 0} (D : A → List Token → Type 0) (x y : A) (before after : List Token) → Reads (λ ts. D x ts) before after → y ≡ x → Reads (λ ts. D y ts) before after
reads_boxed D x y before after r same = subst (λ z. Reads (λ ts. D z ts) before after) (sym same) r

pub reads_from : (D : List Token → Type 0) (before mid after : List Token) → Reads D mid after → before ≡ mid → Reads D before after
reads_from D before mid after r same = subst (λ us. Reads D us after) (sym same) r
