-- Each derivation of a type is traced.
use Rattle.std.proofs.Common.{◌≡◌, ℕ, List, [], ◌∷◌, false, refl}
use Rattle.el_base.specs.declared.span.Span.{Span}
use Rattle.el_base.specs.declared.ty.Ty.{Ty}
use Rattle.c_ast.specs.declared.token.Token.{Token}
use Rattle.c_ast.specs.declared.token.Word.{Word}
use Rattle.c_ast.specs.declared.token.Word.TheVariants as word
use Rattle.c_ast.specs.declared.key.Key.{Key}
use Rattle.c_ast.specs.declared.key.Key.TheVariants as key
use Rattle.c_ast.specs.Derives.{keyed, DerivesType}
use Rattle.c_ast.specs.Nesting.{at_level}
use Rattle.c_parse.specs.Symbols.{Symbol, Reduction, Move, type_move, maybe_int_move}
use Rattle.c_parse.specs.Values.{Value, type_in}
use Rattle.c_parse.specs.Traces.{trace}
use Rattle.c_parse.proofs.Closing.{is_int_word, is_int}
use Rattle.c_parse.proofs.Tracing.{trace_passes}
use Rattle.c_parse.proofs.Leading.{Leads, leads_take, leads_taking, leads_reducing, leads_reduced, leads_to}

-- ---- the word int, which may be absent

no_int : (n : ℕ) (w : Word) → is_int_word w ≡ false → maybe_int_move n w ≡ Move.pass
no_int n (word.Key key.Int) h = absurd (cc)
no_int n w h = refl

int_passes : (n : ℕ) (symbols : List Symbol) (vs : List Value) (rest : List Token) → is_int rest ≡ false → trace (Symbol.maybe_int n ∷ symbols) vs rest ≡ trace symbols vs rest
int_passes n symbols vs [] h = refl
int_passes n symbols vs (t ∷ ts) h = trace_passes (Symbol.maybe_int n) symbols vs t ts (no_int n t.word h)

-- ---- types

-- a type of one word, behind which no int may stand
one_word : (k : Key) (s : Span) (n : ℕ) (rest : List Token) (symbols : List Symbol) (vs : List Value) → type_move n (word.Key k) ≡ Move.take n (Symbol.reduce Reduction.plain ∷ [])
    → Leads (n ∷ []) (keyed k s ∷ []) rest (Symbol.a_type n ∷ symbols) vs symbols (Value.of_ty (keyed k s ∷ []) (type_in (word.Key k)) ∷ vs)
one_word k s n rest symbols vs h = leads_reduced Reduction.plain (leads_take (Symbol.a_type n) (keyed k s) h)

abbrev NeedsNoInt : ℕ → Key → Type 0
NeedsNoInt n k = type_move n (word.Key k) ≡ Move.take n (Symbol.reduce Reduction.plain ∷ Symbol.maybe_int n ∷ [])

-- a type of one word, behind which int may stand
without_int : (k : Key) (s : Span) (n : ℕ) (rest : List Token) (symbols : List Symbol) (vs : List Value) → NeedsNoInt n k → is_int rest ≡ false
    → Leads (n ∷ []) (keyed k s ∷ []) rest (Symbol.a_type n ∷ symbols) vs symbols (Value.of_ty (keyed k s ∷ []) (type_in (word.Key k)) ∷ vs)
without_int k s n rest symbols vs h none =
    leads_to (leads_reduced Reduction.plain (leads_take (Symbol.a_type n) (keyed k s) h)) (int_passes n symbols (Value.of_ty (keyed k s ∷ []) (type_in (word.Key k)) ∷ vs) rest none)

-- the same with int
with_int : (k : Key) (s z : Span) (n : ℕ) (rest : List Token) (symbols : List Symbol) (vs : List Value) → NeedsNoInt n k
    → Leads (n ∷ n ∷ []) (keyed k s ∷ keyed key.Int z ∷ []) rest (Symbol.a_type n ∷ symbols) vs symbols (Value.of_ty (keyed k s ∷ keyed key.Int z ∷ []) (type_in (word.Key k)) ∷ vs)
with_int k s z n rest symbols vs h =
    leads_taking (Symbol.a_type n) (keyed k s) h (leads_reducing Reduction.plain (leads_reduced Reduction.with_int (leads_take (Symbol.maybe_int n) (keyed key.Int z) refl)))

pub leads_type : (n : ℕ) (ts rest : List Token) (t : Ty) (d : DerivesType ts t) (symbols : List Symbol) (vs : List Value) → is_int rest ≡ false
    → Leads (at_level n ts) ts rest (Symbol.a_type n ∷ symbols) vs symbols (Value.of_ty ts t ∷ vs)
leads_type n ts rest t (DerivesType.fixed_8 s) symbols vs none = one_word key.Int8 s n rest symbols vs refl
leads_type n ts rest t (DerivesType.fixed_16 s) symbols vs none = one_word key.Int16 s n rest symbols vs refl
leads_type n ts rest t (DerivesType.fixed_32 s) symbols vs none = one_word key.Int32 s n rest symbols vs refl
leads_type n ts rest t (DerivesType.fixed_64 s) symbols vs none = one_word key.Int64 s n rest symbols vs refl
leads_type n ts rest t (DerivesType.unsigned_8 s) symbols vs none = one_word key.Uint8 s n rest symbols vs refl
leads_type n ts rest t (DerivesType.unsigned_16 s) symbols vs none = one_word key.Uint16 s n rest symbols vs refl
leads_type n ts rest t (DerivesType.unsigned_32 s) symbols vs none = one_word key.Uint32 s n rest symbols vs refl
leads_type n ts rest t (DerivesType.unsigned_64 s) symbols vs none = one_word key.Uint64 s n rest symbols vs refl
leads_type n ts rest t (DerivesType.plain_int s) symbols vs none = one_word key.Int s n rest symbols vs refl
leads_type n ts rest t (DerivesType.plain_signed s) symbols vs none = without_int key.Signed s n rest symbols vs refl none
leads_type n ts rest t (DerivesType.signed_int s z) symbols vs none = with_int key.Signed s z n rest symbols vs refl
leads_type n ts rest t (DerivesType.plain_unsigned s) symbols vs none = without_int key.Unsigned s n rest symbols vs refl none
leads_type n ts rest t (DerivesType.unsigned_int s z) symbols vs none = with_int key.Unsigned s z n rest symbols vs refl
