-- Whatever symbols are expected, there are tokens that complete them.
use Rattle.std.proofs.Common.{◌≡◌, ℕ, zero, suc, ◌-◌, List, [], ◌∷◌, ◌++◌, length, Bool, true, false, if◌then◌else◌, None, arith, refl, ◌∙◌, ap}
use Rattle.el_base.specs.declared.span.Span.{Span}
use Rattle.el_base.specs.declared.ty.Ty.{Ty}
use Rattle.el_base.specs.declared.ty.Ty.TheVariants.{I32}
use Rattle.c_ast.specs.declared.token.Token.{Token}
use Rattle.c_ast.specs.declared.token.Word.{Word}
use Rattle.c_ast.specs.declared.token.Word.TheVariants as word
use Rattle.c_ast.specs.declared.key.Key.TheVariants as key
use Rattle.c_ast.specs.declared.mark.Mark.TheVariants as mark
use Rattle.c_parse.specs.declared.bar.Bar.{Bar}
use Rattle.c_parse.specs.declared.bar.Bar.TheVariants as bar
use Rattle.c_parse.specs.Symbols.{Symbol, Reduction, Fixed, Move, move, bars, limited, spelled, looser, tails, may_be_absent}
use Rattle.c_parse.specs.Values.{Value, reduced}
use Rattle.c_parse.specs.Traces.{Trace, settled, trace, laid}
use Rattle.c_parse.proofs.Chains.{fixed_takes}
use Rattle.c_parse.proofs.EachToken.{NoneBarred}
use Rattle.c_parse.proofs.KernelParts.{is_part, is_sound, AreSound, part_sound, first_sound}
use Rattle.c_parse.proofs.Passing.{without_runs}
use Rattle.c_parse.proofs.Tracing.{trace_passes}
use Rattle.c_parse.proofs.Runs.{Runs, runs_join, runs_from, runs_to, runs_take}

-- ---- tokens at which whatever may be absent is passed over, but for what may follow a name: of that empty parentheses are read

abbrev may_be_omitted : Symbol → Bool
may_be_omitted (Symbol.postfix n) = false
may_be_omitted (Symbol.without b s) = may_be_omitted s
may_be_omitted s = may_be_absent s

omitted_absent : (s : Symbol) → may_be_omitted s ≡ true → may_be_absent s ≡ true
omitted_absent (Symbol.postfix n) h = refl
omitted_absent (Symbol.without b s) h = omitted_absent s h
omitted_absent s h = h

pub data IsCalm : Word → Type 0 where
  name : (x : List ℕ) → IsCalm (word.Name x)
  number : (v : ℕ) (t : Ty) → IsCalm (word.Number v t)
  int_8 : IsCalm (word.Key key.Int8)
  void : IsCalm (word.Key key.Void)
  increment : IsCalm (word.Mark mark.Increment)
  closing_brace : IsCalm (word.Mark mark.CloseBrace)
  fixed : (f : Fixed) → IsCalm (spelled f)

calm_passes : (s : Symbol) (w : Word) → IsCalm w → may_be_omitted s ≡ true → move s w ≡ Move.pass
calm_passes (Symbol.without b s) w c h = ap (λ m. limited b (may_be_absent s) m (bars b w)) (calm_passes s w c h)
calm_passes (Symbol.operators n zero) w (IsCalm.fixed Fixed.opening) h = refl
calm_passes s w (IsCalm.fixed Fixed.opening) h = cc
calm_passes s w c h = cc

-- the word return, by which the block of a helper may end
return_passes : (s : Symbol) → may_be_omitted s ≡ true → move s (word.Key key.Return) ≡ Move.pass
return_passes (Symbol.without b s) h = ap (λ m. limited b (may_be_absent s) m (bars b (word.Key key.Return))) (return_passes s h)
return_passes (Symbol.operators n zero) h = refl
return_passes s h = cc

-- calm words are not barred
calm_free : (b : Bar) (w : Word) → IsCalm w → bars b w ≡ false
calm_free bar.Returns w (IsCalm.fixed Fixed.opening) = refl
calm_free b w (IsCalm.fixed Fixed.opening) = refl
calm_free b w c = refl

-- tokens before which whatever may be absent is passed over
abbrev Calm : List Token → Type 0
Calm ts = (s : Symbol) (symbols : List Symbol) (vs : List Value) → may_be_omitted s ≡ true → trace (s ∷ symbols) vs ts ≡ trace symbols (settled s vs) ts

calm_end : Calm []
calm_end s symbols vs h = ap (λ b. if b then trace symbols (settled s vs) [] else Trace.cut) (omitted_absent s h)

calm_before : (t : Token) (ts : List Token) → IsCalm t.word → Calm (t ∷ ts)
calm_before t ts c s symbols vs h = trace_passes s symbols vs t ts (calm_passes s t.word c h)

-- ---- symbols all of which may be absent

data AllMayBeAbsent : List Symbol → Type 0 where
  no_more : AllMayBeAbsent []
  one_more : (s : Symbol) (symbols : List Symbol) → may_be_omitted s ≡ true → AllMayBeAbsent symbols → AllMayBeAbsent (s ∷ symbols)

abbrev settled_all : List Symbol → List Value → List Value
settled_all [] vs = vs
settled_all (s ∷ symbols) vs = settled_all symbols (settled s vs)

calm_omits : (new symbols : List Symbol) (vs : List Value) (ts : List Token) → AllMayBeAbsent new → Calm ts → trace (new ++ symbols) vs ts ≡ trace symbols (settled_all new vs) ts
calm_omits new symbols vs ts AllMayBeAbsent.no_more calm = refl
calm_omits new symbols vs ts (AllMayBeAbsent.one_more s more h rest) calm = calm s (more ++ symbols) vs h ∙ calm_omits more symbols (settled s vs) ts rest calm

one_behind : (symbols : List Symbol) (s : Symbol) → AllMayBeAbsent symbols → may_be_omitted s ≡ true → AllMayBeAbsent (symbols ++ s ∷ [])
one_behind symbols s AllMayBeAbsent.no_more h = AllMayBeAbsent.one_more s [] h AllMayBeAbsent.no_more
one_behind symbols s (AllMayBeAbsent.one_more u more k rest) h = AllMayBeAbsent.one_more u (more ++ s ∷ []) k (one_behind more s rest h)

looser_absent : (n k : ℕ) → AllMayBeAbsent (looser n k)
looser_absent n zero = AllMayBeAbsent.no_more
looser_absent n (suc k) = one_behind (looser n k) (Symbol.operators n (10 - k)) (looser_absent n k) refl

-- ---- tokens for one symbol

record Filler (s : Symbol) (vs : List Value) : Type 0 where
  tokens : List Token
  nestings : List ℕ
  values : List Value
  runs : (symbols : List Symbol) (rest : List Token) → Calm rest → Runs nestings tokens (trace (s ∷ symbols) vs (tokens ++ rest)) (trace symbols values rest)
  calm : (rest : List Token) → Calm (tokens ++ rest)
  free : is_part s ≡ true → (b : Bar) → NoneBarred b tokens

abbrev somewhere : Span
somewhere = record { start = 0; end = 0; line = 0; column = 0 }

abbrev token : Word → Token
token w = record { word = w; span = somewhere }

-- one token, behind which all may be absent
by_one : (s : Symbol) (w : Word) (n : ℕ) (new : List Symbol) (vs : List Value) → IsCalm w → move s w ≡ Move.take n new → AllMayBeAbsent new → Filler s vs
by_one s w n new vs c h absent = record {
  tokens = token w ∷ [];
  nestings = n ∷ [];
  values = settled_all new (Value.of_token (token w) ∷ vs);
  runs = λ symbols rest calm.
      let last : Trace = trace symbols (settled_all new (Value.of_token (token w) ∷ vs)) rest in
      runs_to (n ∷ []) (token w ∷ []) (trace (s ∷ symbols) vs (token w ∷ rest)) (trace (new ++ symbols) (Value.of_token (token w) ∷ vs) rest) last
      (runs_take s n new symbols vs (token w) rest h) (calm_omits new symbols (Value.of_token (token w) ∷ vs) rest absent calm);
  calm = λ rest. calm_before (token w) rest c;
  free = λ part b. (calm_free b w c, tt);
}

reducing : (r : Reduction) → AllMayBeAbsent (Symbol.reduce r ∷ [])
reducing r = AllMayBeAbsent.one_more (Symbol.reduce r) [] refl AllMayBeAbsent.no_more

abbrev some_name : Word
some_name = word.Name []

abbrev some_number : Word
some_number = word.Number 0 I32

-- two tokens, behind which all may be absent
by_two : (s : Symbol) (w z : Word) (n m : ℕ) (new : List Symbol) (vs us : List Value) → IsCalm w → IsCalm z → AllMayBeAbsent new
    → ((symbols : List Symbol) (rest : List Token) → trace (s ∷ symbols) vs (token w ∷ token z ∷ rest) ≡ Trace.taken n somewhere (Trace.taken m somewhere (trace (new ++ symbols) us rest)))
    → Filler s vs
by_two s w z n m new vs us c c2 absent h = record {
  tokens = token w ∷ token z ∷ [];
  nestings = n ∷ m ∷ [];
  values = settled_all new us;
  runs = λ symbols rest calm.
      let last : Trace = trace symbols (settled_all new us) rest in
      runs_from (n ∷ m ∷ []) (token w ∷ token z ∷ []) (trace (s ∷ symbols) vs (token w ∷ token z ∷ rest)) (Trace.taken n somewhere (Trace.taken m somewhere last)) last
      (h symbols rest ∙ ap (λ a. Trace.taken n somewhere (Trace.taken m somewhere a)) (calm_omits new symbols us rest absent calm))
      (Runs.onward n (token w) (m ∷ []) (token z ∷ []) (Trace.taken m somewhere last) last (Runs.onward m (token z) [] [] last last (Runs.done last)));
  calm = λ rest. calm_before (token w) (token z ∷ rest) c;
  free = λ part b. (calm_free b w c, (calm_free b z c2, tt));
}

-- several tokens, behind which all may be absent
runs_laid : (ns : List ℕ) (ts : List Token) (a : Trace) → length ns ≡ length ts → Runs ns ts (laid ns ts a) a
runs_laid [] [] a h = Runs.done a
runs_laid (n ∷ ns) (t ∷ ts) a h = Runs.onward n t ns ts (laid ns ts a) a (runs_laid ns ts a (omega arith))
runs_laid ns ts a h = absurd (cc)

by_many : (s : Symbol) (ts : List Token) (ns : List ℕ) (new : List Symbol) (vs us : List Value) → length ns ≡ length ts → ((rest : List Token) → Calm (ts ++ rest)) → (is_part s ≡ true → ⊥) → AllMayBeAbsent new
    → ((symbols : List Symbol) (rest : List Token) → trace (s ∷ symbols) vs (ts ++ rest) ≡ laid ns ts (trace (new ++ symbols) us rest)) → Filler s vs
by_many s ts ns new vs us same calm no_part absent h = record {
  tokens = ts;
  nestings = ns;
  values = settled_all new us;
  runs = λ symbols rest quiet.
      let last : Trace = trace symbols (settled_all new us) rest in
      runs_from ns ts (trace (s ∷ symbols) vs (ts ++ rest)) (laid ns ts last) last (h symbols rest ∙ ap (λ a. laid ns ts a) (calm_omits new symbols us rest absent quiet)) (runs_laid ns ts last same);
  calm = calm;
  free = λ part b. absurd (no_part part);
}

-- a kernel that does nothing
program_filler : (vs : List Value) → Filler Symbol.program vs
program_filler vs =
    let void : Token = token (word.Key key.Void) in
    let close : Token = token (word.Mark mark.Close) in
    let brace : Token = token (word.Mark mark.OpenBrace) in
    let end : Token = token (word.Mark mark.CloseBrace) in
    by_many Symbol.program (void ∷ token some_name ∷ token (word.Mark mark.Open) ∷ close ∷ brace ∷ end ∷ []) (0 ∷ 0 ∷ 1 ∷ 1 ∷ 1 ∷ 1 ∷ []) (Symbol.reduce Reduction.kernel ∷ Symbol.reduce Reduction.program ∷ []) vs
    (Value.of_token end ∷ Value.of_stmts [] [] ∷ Value.of_token brace ∷ Value.of_token close ∷ Value.of_params [] [] ∷ Value.of_token (token (word.Mark mark.Open)) ∷ Value.of_token (token some_name) ∷ Value.of_result (void ∷ []) None ∷ vs)
    refl (λ rest. calm_before void (token some_name ∷ token (word.Mark mark.Open) ∷ close ∷ brace ∷ end ∷ rest) IsCalm.void) (λ part. cc)
    (AllMayBeAbsent.one_more (Symbol.reduce Reduction.kernel) (Symbol.reduce Reduction.program ∷ []) refl (reducing Reduction.program)) (λ symbols rest. refl)

-- a return and the closing brace
block_filler : (n : ℕ) (vs : List Value) → Filler (Symbol.helper_body n) vs
block_filler n vs =
    let back : Token = token (word.Key key.Return) in
    let semicolon : Token = token (word.Mark mark.Semicolon) in
    let end : Token = token (word.Mark mark.CloseBrace) in
    by_many (Symbol.helper_body n) (back ∷ token some_number ∷ semicolon ∷ end ∷ []) (n ∷ n ∷ n ∷ n ∷ []) [] vs
    (Value.of_token end ∷ Value.of_token semicolon ∷ reduced Reduction.constant (Value.of_token (token some_number) ∷ Value.of_token back ∷ vs))
    refl (λ rest s symbols us h. trace_passes s symbols us back (token some_number ∷ semicolon ∷ end ∷ rest) (return_passes s h)) (λ part. cc) AllMayBeAbsent.no_more (λ symbols rest. refl)

-- a part without a word: the tokens are those of the part
without_filler : (b : Bar) (s : Symbol) (vs : List Value) → is_part s ≡ true → Filler s vs → Filler (Symbol.without b s) vs
without_filler b s vs part f = record {
  tokens = f.tokens;
  nestings = f.nestings;
  values = f.values;
  runs = λ symbols rest quiet. without_runs b f.nestings f.tokens rest (s ∷ []) vs f.values (f.free part b) (f.runs [] rest quiet) (f.runs [] [] calm_end) symbols;
  calm = f.calm;
  free = λ no. absurd (cc);
}

filler : (s : Symbol) (vs : List Value) → may_be_omitted s ≡ false → is_sound s ≡ true → Filler s vs
filler (Symbol.fixed n f) vs h sound = by_one (Symbol.fixed n f) (spelled f) n [] vs (IsCalm.fixed f) (fixed_takes n f (spelled f) refl) AllMayBeAbsent.no_more
filler (Symbol.a_name n) vs h sound = by_one (Symbol.a_name n) some_name n [] vs (IsCalm.name []) refl AllMayBeAbsent.no_more
filler (Symbol.a_number n) vs h sound = by_one (Symbol.a_number n) some_number n [] vs (IsCalm.number 0 I32) refl AllMayBeAbsent.no_more
filler (Symbol.a_type n) vs h sound = by_one (Symbol.a_type n) (word.Key key.Int8) n (Symbol.reduce Reduction.plain ∷ []) vs IsCalm.int_8 refl (reducing Reduction.plain)
filler (Symbol.expression n l) vs h sound = by_one (Symbol.expression n l) some_number n (Symbol.reduce Reduction.constant ∷ tails n l) vs (IsCalm.number 0 I32) refl
    (AllMayBeAbsent.one_more (Symbol.reduce Reduction.constant) (tails n l) refl (looser_absent n (11 - l)))
filler (Symbol.inside n) vs h sound = by_two (Symbol.inside n) some_number (word.Mark mark.Close) n n (Symbol.reduce Reduction.group ∷ []) vs
    (Value.of_token (token (word.Mark mark.Close)) ∷ reduced Reduction.constant (Value.of_token (token some_number) ∷ vs)) (IsCalm.number 0 I32) (IsCalm.fixed Fixed.closing) (reducing Reduction.group) (λ symbols rest. refl)
filler (Symbol.postfix n) vs h sound = by_two (Symbol.postfix n) (word.Mark mark.Open) (word.Mark mark.Close) (suc n) (suc n) (Symbol.reduce Reduction.no_arguments ∷ []) vs
    (Value.of_token (token (word.Mark mark.Close)) ∷ Value.of_token (token (word.Mark mark.Open)) ∷ vs) (IsCalm.fixed Fixed.opening) (IsCalm.fixed Fixed.closing) (reducing Reduction.no_arguments) (λ symbols rest. refl)
filler (Symbol.arguments n) vs h sound = by_one (Symbol.arguments n) (word.Mark mark.Close) n (Symbol.reduce Reduction.no_arguments ∷ []) vs (IsCalm.fixed Fixed.closing) refl (reducing Reduction.no_arguments)
filler (Symbol.simple n) vs h sound = by_two (Symbol.simple n) some_name (word.Mark mark.Increment) n n (Symbol.reduce Reduction.step_after ∷ []) vs
    (Value.of_token (token (word.Mark mark.Increment)) ∷ reduced Reduction.target (reduced Reduction.no_indices (Value.of_token (token some_name) ∷ vs))) (IsCalm.name []) IsCalm.increment (reducing Reduction.step_after) (λ symbols rest. refl)
filler (Symbol.assigning n) vs h sound = by_one (Symbol.assigning n) (word.Mark mark.Increment) n (Symbol.reduce Reduction.step_after ∷ []) vs IsCalm.increment refl (reducing Reduction.step_after)
filler (Symbol.declared n) vs h sound = by_one (Symbol.declared n) some_name n (Symbol.reduce Reduction.no_value ∷ Symbol.value n ∷ []) vs (IsCalm.name []) refl
    (AllMayBeAbsent.one_more (Symbol.reduce Reduction.no_value) (Symbol.value n ∷ []) refl (AllMayBeAbsent.one_more (Symbol.value n) [] refl AllMayBeAbsent.no_more))
filler (Symbol.first n) vs h sound = by_one (Symbol.first n) (word.Mark mark.Semicolon) n (Symbol.reduce Reduction.no_first ∷ []) vs (IsCalm.fixed Fixed.semicolon) refl (reducing Reduction.no_first)
filler (Symbol.condition n) vs h sound = by_one (Symbol.condition n) (word.Mark mark.Semicolon) n (Symbol.reduce Reduction.no_condition ∷ []) vs (IsCalm.fixed Fixed.semicolon) refl (reducing Reduction.no_condition)
filler (Symbol.last n) vs h sound = by_one (Symbol.last n) (word.Mark mark.Close) n (Symbol.reduce Reduction.no_step ∷ []) vs (IsCalm.fixed Fixed.closing) refl (reducing Reduction.no_step)
filler (Symbol.statement n) vs h sound = by_one (Symbol.statement n) (word.Mark mark.Semicolon) n (Symbol.reduce Reduction.empty ∷ []) vs (IsCalm.fixed Fixed.semicolon) refl (reducing Reduction.empty)
filler (Symbol.body n) vs h sound = by_one (Symbol.body n) (word.Mark mark.CloseBrace) n [] vs IsCalm.closing_brace refl AllMayBeAbsent.no_more
filler (Symbol.result n) vs h sound = by_one (Symbol.result n) (word.Key key.Void) n (Symbol.reduce Reduction.void_result ∷ []) vs IsCalm.void refl (reducing Reduction.void_result)
filler (Symbol.params n) vs h sound = by_one (Symbol.params n) (word.Mark mark.Close) n (Symbol.reduce Reduction.no_params ∷ []) vs (IsCalm.fixed Fixed.closing) refl (reducing Reduction.no_params)
filler (Symbol.a_param n) vs h sound = by_two (Symbol.a_param n) (word.Key key.Int8) some_name n n (Symbol.reduce Reduction.no_dims ∷ Symbol.dims n ∷ Symbol.reduce Reduction.param ∷ []) vs
    (Value.of_token (token some_name) ∷ reduced Reduction.plain (Value.of_token (token (word.Key key.Int8)) ∷ vs)) IsCalm.int_8 (IsCalm.name [])
    (AllMayBeAbsent.one_more (Symbol.reduce Reduction.no_dims) (Symbol.dims n ∷ Symbol.reduce Reduction.param ∷ []) refl
    (AllMayBeAbsent.one_more (Symbol.dims n) (Symbol.reduce Reduction.param ∷ []) refl (reducing Reduction.param)))
    (λ symbols rest. refl)
filler Symbol.program vs h sound = program_filler vs
filler (Symbol.helper_body n) vs h sound = block_filler n vs
filler (Symbol.without b s) vs h sound = without_filler b s vs sound (filler s vs h (part_sound s sound))
filler s vs h sound = absurd (cc)

-- ---- all symbols

-- tokens that complete these symbols
pub record Filled (symbols : List Symbol) (vs : List Value) : Type 0 where
  pub rest : List Token
  pub ns : List ℕ
  pub ws : List Value
  pub runs : Runs ns rest (trace symbols vs rest) (Trace.complete ws)

record CalmlyFilled (symbols : List Symbol) (vs : List Value) : Type 0 where
  filled : Filled symbols vs
  calm : Calm filled.rest

filled_absent : (s : Symbol) (symbols : List Symbol) (vs : List Value) → may_be_omitted s ≡ true → CalmlyFilled symbols (settled s vs) → CalmlyFilled (s ∷ symbols) vs
filled_absent s symbols vs h f = record {
  filled = record {
    rest = f.filled.rest;
    ns = f.filled.ns;
    ws = f.filled.ws;
    runs = runs_from f.filled.ns f.filled.rest (trace (s ∷ symbols) vs f.filled.rest) (trace symbols (settled s vs) f.filled.rest) (Trace.complete f.filled.ws) (f.calm s symbols vs h) f.filled.runs;
  };
  calm = f.calm;
}

filled_needed : (s : Symbol) (symbols : List Symbol) (vs : List Value) (one : Filler s vs) → CalmlyFilled symbols one.values → CalmlyFilled (s ∷ symbols) vs
filled_needed s symbols vs one f = record {
  filled = record {
    rest = one.tokens ++ f.filled.rest;
    ns = one.nestings ++ f.filled.ns;
    ws = f.filled.ws;
    runs = runs_join one.nestings f.filled.ns one.tokens f.filled.rest (trace (s ∷ symbols) vs (one.tokens ++ f.filled.rest)) (trace symbols one.values f.filled.rest) (Trace.complete f.filled.ws)
        (one.runs symbols f.filled.rest f.calm) f.filled.runs;
  };
  calm = one.calm f.filled.rest;
}

by_kind : (s : Symbol) (symbols : List Symbol) (vs : List Value) → is_sound s ≡ true → ((us : List Value) → CalmlyFilled symbols us) → (b : Bool) → may_be_omitted s ≡ b → CalmlyFilled (s ∷ symbols) vs
by_kind s symbols vs sound behind true h = filled_absent s symbols vs h (behind (settled s vs))
by_kind s symbols vs sound behind false h = let one : Filler s vs = filler s vs h sound in filled_needed s symbols vs one (behind one.values)

calmly_fill : (symbols : List Symbol) (vs : List Value) → AreSound symbols → CalmlyFilled symbols vs
calmly_fill [] vs sound = record { filled = record { rest = []; ns = []; ws = vs; runs = Runs.done (Trace.complete vs) }; calm = calm_end }
calmly_fill (s ∷ symbols) vs sound = let both = first_sound s symbols sound in by_kind s symbols vs both.0 (λ us. calmly_fill symbols us both.1) (may_be_omitted s) refl

pub fill : (symbols : List Symbol) (vs : List Value) → AreSound symbols → Filled symbols vs
fill symbols vs sound = (calmly_fill symbols vs sound).filled
