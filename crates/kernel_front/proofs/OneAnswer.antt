-- The bytes of a kernel have one answer.
use Rattle.std.proofs.Common.{⊎_elim, inl, inr, ◌≡◌, ◌≢◌, ◌⊎◌, ℕ, ◌<◌, ◌≤◌, List, Result, Ok, Err, refl, sym, ap, ◌∙◌, subst, arith}
use Rattle.el_base.specs.Limits.{max_nodes}
use Rattle.el_base.specs.declared.span.Span.{Span}
use Rattle.c_ast.specs.declared.token.Token.{Token}
use Rattle.c_ast.specs.declared.tree.Program.{Program}
use Rattle.c_ast.specs.declared.program.TypedProgram.{TypedProgram}
use Rattle.c_ast.specs.ProgramCasts.{CastsProgram}
use Rattle.c_ast.specs.Programs.{TypingProgram}
use Rattle.c_ast.specs.Nodes.{typed_nodes}
use Rattle.c_ast.specs.Tokens.{Fault, bad_byte, open_comment, bad_number, wide_number, bad_directive, redefined, whole, broken, Reads, Tokens}
use Rattle.c_lex.specs.Refusals as lexer
use Rattle.c_lex.specs.declared.refusal.LexRefusal.{LexRefusal}
use Rattle.c_lex.specs.declared.refusal.LexRefusal.TheVariants as lex
use Rattle.c_parse.specs.ProgramRefusals as parser
use Rattle.c_parse.specs.declared.refusal.ParseRefusal.{ParseRefusal}
use Rattle.c_parse.specs.declared.refusal.ParseRefusal.TheVariants as parse
use Rattle.c_types.specs.declared.fault.TypeRefusal.{TypeRefusal}
use Rattle.c_types.specs.declared.fault.TypeRefusal.TheVariants as types
use Rattle.c_types.specs.Causes.{IsProgramCause}
use Rattle.c_calls.specs.Inlined.{inlined}
use Rattle.c_calls.specs.Texts.{TypedIsOne}
use Rattle.c_inline.specs.Refusals.{IsGrown}
use Rattle.c_inline.specs.declared.refusal.InlineRefusal.{InlineRefusal}
use Rattle.c_inline.specs.declared.refusal.InlineRefusal.TheVariants as inline
use Rattle.kernel_front.specs.declared.reading.Kernel.{Kernel}
use Rattle.kernel_front.specs.declared.refusal.KernelRefusal.{KernelRefusal}
use Rattle.kernel_front.specs.declared.refusal.KernelRefusal.TheVariants as refusal
use Rattle.kernel_front.specs.Answers.{end_of_text, SpellsWithin, SpellsTyped, IsKernel, IsLexed, IsParsed, IsTyped, IsInlined, Says, HasOneAnswer}
use Rattle.kernel_front.proofs.OneFault.{one_fault}

-- ---- texts without tokens

-- a refusal of the lexer is that of a broken rule at its place
record IsBroken (bytes : List ℕ) (e : LexRefusal) : Type 0 where
  tokens : List Token
  fault : Fault
  place : Span
  reads : Reads bytes tokens (broken fault place)
  is : e ≡ lexer.refusal_of fault place

is_broken : (bytes : List ℕ) (e : LexRefusal) → e ≢ lex.Memory → lexer.Says bytes (Err e) → IsBroken bytes e
is_broken bytes (lex.BadByte s) told h = record { tokens = h.0; fault = bad_byte; place = s; reads = h.1; is = refl }
is_broken bytes (lex.OpenComment s) told h = record { tokens = h.0; fault = open_comment; place = s; reads = h.1; is = refl }
is_broken bytes (lex.BadNumber s) told h = record { tokens = h.0; fault = bad_number; place = s; reads = h.1; is = refl }
is_broken bytes (lex.WideNumber s) told h = record { tokens = h.0; fault = wide_number; place = s; reads = h.1; is = refl }
is_broken bytes (lex.Directive s) told h = record { tokens = h.0; fault = bad_directive; place = s; reads = h.1; is = refl }
is_broken bytes (lex.Redefined s) told h = record { tokens = h.0; fault = redefined; place = s; reads = h.1; is = refl }
is_broken bytes lex.Memory told h = absurd (told refl)

fault_is : (f g : Fault) (s z : Span) → broken f s ≡ broken g z → f ≡ g
fault_is f g s z e = cc

place_is : (f g : Fault) (s z : Span) → broken f s ≡ broken g z → s ≡ z
place_is f g s z e = cc

whole_or_broken : {P : Type 0} (f : Fault) (s : Span) → whole ≡ broken f s → P
whole_or_broken f s e = absurd (cc)

-- ---- texts with tokens

-- what the parser says of the tokens of a text
record IsParse (bytes : List ℕ) (r : Result Program ParseRefusal) : Type 0 where
  told : r ≢ Err parse.Memory
  tokens : List Token
  read : Tokens bytes tokens
  says : parser.SaysProgram tokens (end_of_text bytes) r

abbrev accepted : Program → Result Program ParseRefusal
accepted = Ok

abbrev refused : ParseRefusal → Result Program ParseRefusal
refused = Err

ok_is : (a b : Program) → accepted a ≡ accepted b → a ≡ b
ok_is a b e = cc

err_is : (a b : ParseRefusal) → refused a ≡ refused b → a ≡ b
err_is a b e = cc

refused_parse : (bytes : List ℕ) (e : ParseRefusal) → IsParsed bytes e → IsParse bytes (Err e)
refused_parse bytes e h = record { told = λ same. h.told (err_is e parse.Memory same); tokens = h.tokens; read = h.read; says = h.cause }

program_parse : (bytes : List ℕ) (p : Program) → SpellsWithin bytes p → IsParse bytes (Ok p)
program_parse bytes p h = record {
  told = λ same. absurd (cc);
  tokens = h.tokens;
  read = h.read;
  says = record { derived = h.derived; shallow = h.shallow; small = h.small };
}

ok_or_err : {P : Type 0} (a : Program) (e : ParseRefusal) → accepted a ≡ refused e → P
ok_or_err a e h = absurd (cc)

kernel_is : (k l : Kernel) → k.typed ≡ l.typed → k.nodes ≡ l.nodes → k ≡ l
kernel_is k l typed nodes = ap (λ t. let r : Kernel = record { typed = t; nodes = k.nodes } in r) typed ∙ ap (λ n. let r : Kernel = record { typed = l.typed; nodes = n } in r) nodes

abbrev pub OneReading : Type 0
OneReading = (bytes : List ℕ) → lexer.IsReadInOneWay bytes

abbrev pub OneParse : Type 0
OneParse = (tokens : List Token) (end : Span) (r : Result Program ParseRefusal) → parser.SaysProgram tokens end r → parser.IsOnlyProgram tokens end r

above : (n : ℕ) → max_nodes < n → n ≤ max_nodes → ⊥
above n h k = omega (arith, h, k)

module _ (one_reading : OneReading) (one_parse : OneParse) (one_typed : TypedIsOne) where
  same_lexed : (bytes : List ℕ) (e f : LexRefusal) → IsLexed bytes e → IsLexed bytes f → e ≡ f
  same_lexed bytes e f h k =
      let a = is_broken bytes e h.told h.cause in
      let b = is_broken bytes f k.told k.cause in
      let ends : broken a.fault a.place ≡ broken b.fault b.place = (one_reading bytes a.tokens b.tokens (broken a.fault a.place) (broken b.fault b.place) a.reads b.reads).1 in
      a.is ∙ ap (λ x. lexer.refusal_of x a.place) (fault_is a.fault b.fault a.place b.place ends) ∙ ap (lexer.refusal_of b.fault) (place_is a.fault b.fault a.place b.place ends) ∙ sym b.is

  not_both : {P : Type 0} (bytes : List ℕ) (e : LexRefusal) (r : Result Program ParseRefusal) → IsLexed bytes e → IsParse bytes r → P
  not_both bytes e r h k =
      let a = is_broken bytes e h.told h.cause in
      whole_or_broken a.fault a.place (one_reading bytes k.tokens a.tokens whole (broken a.fault a.place) k.read a.reads).1

  same_parse : (bytes : List ℕ) (r q : Result Program ParseRefusal) → IsParse bytes r → IsParse bytes q → r ≡ q
  same_parse bytes r q h k =
      let tokens : k.tokens ≡ h.tokens = (one_reading bytes k.tokens h.tokens whole whole k.read h.read).0 in
      ⊎_elim (λ same. same) (λ memory. absurd (h.told memory))
      (one_parse h.tokens (end_of_text bytes) r h.says q k.told (subst (λ ts. parser.SaysProgram ts (end_of_text bytes) q) tokens k.says))

  pub same_program : (bytes : List ℕ) (a b : Program) → SpellsWithin bytes a → SpellsWithin bytes b → a ≡ b
  same_program bytes a b h k = ok_is a b (same_parse bytes (Ok a) (Ok b) (program_parse bytes a h) (program_parse bytes b k))

  same_typed : (bytes : List ℕ) (P Q : TypedProgram) → SpellsTyped bytes P → SpellsTyped bytes Q → P ≡ Q
  same_typed bytes P Q h k =
      one_typed k.program P Q (subst (λ p. CastsProgram p P) (same_program bytes h.program k.program h.within k.within) h.casts) k.casts

  same_kernel : (bytes : List ℕ) (k l : Kernel) → IsKernel bytes k → IsKernel bytes l → k ≡ l
  same_kernel bytes k l g h =
      let typed : k.typed ≡ l.typed = g.inlined ∙ ap inlined (same_typed bytes g.program h.program g.spelled h.spelled) ∙ sym h.inlined in
      kernel_is k l typed (g.typed_nodes ∙ ap typed_nodes typed ∙ sym h.typed_nodes)

  same_types : (bytes : List ℕ) (e f : TypeRefusal) → IsTyped bytes e → IsTyped bytes f → e ≡ f
  same_types bytes (types.Broken f) (types.Broken g) h k =
      let program : k.program ≡ h.program = same_program bytes k.program h.program k.within h.within in
      let cause : IsProgramCause h.program (types.Broken g) = subst (λ p. IsProgramCause p (types.Broken g)) program k.cause in
      ap types.Broken (one_fault bytes h.within.tokens h.program f g h.within.read h.within.derived h.cause.first cause.first)
  same_types bytes types.Memory f h k = absurd (h.told refl)
  same_types bytes (types.Broken f) types.Memory h k = absurd (k.told refl)

  not_typed : {P : Type 0} (p : Program) (e : TypeRefusal) → e ≢ types.Memory → IsProgramCause p e → TypingProgram p → P
  not_typed p (types.Broken f) told h typing = absurd (h.untyped typing)
  not_typed p types.Memory told h typing = absurd (told refl)

  typed_or_not : {P : Type 0} (bytes : List ℕ) (Q : TypedProgram) (e : TypeRefusal) → SpellsTyped bytes Q → IsTyped bytes e → P
  typed_or_not bytes Q e h g = not_typed g.program e g.told g.cause (subst TypingProgram (same_program bytes h.program g.program h.within g.within) h.typing)

  program_or_not : {P : Type 0} (bytes : List ℕ) (p : Program) (e : ParseRefusal) → SpellsWithin bytes p → IsParsed bytes e → P
  program_or_not bytes p e h k = ok_or_err p e (same_parse bytes (Ok p) (Err e) (program_parse bytes p h) (refused_parse bytes e k))

  same_grown : (P : TypedProgram) (e f : InlineRefusal) → e ≢ inline.Memory → f ≢ inline.Memory → IsGrown P e → IsGrown P f → e ≡ f
  same_grown P (inline.Grown s n) (inline.Grown z m) told other h k = ap (λ x. inline.Grown x n) (h.name ∙ sym k.name) ∙ ap (inline.Grown z) (h.count ∙ sym k.count)
  same_grown P inline.Memory f told other h k = absurd (told refl)
  same_grown P (inline.Grown s n) inline.Memory told other h k = absurd (other refl)

  same_inlined : (bytes : List ℕ) (e f : InlineRefusal) → IsInlined bytes e → IsInlined bytes f → e ≡ f
  same_inlined bytes e f h k =
      same_grown h.program e f h.told k.told h.cause (subst (λ P. IsGrown P f) (same_typed bytes k.program h.program k.spelled h.spelled) k.cause)

  not_grown : {A : Type 0} (P : TypedProgram) (e : InlineRefusal) → e ≢ inline.Memory → IsGrown P e → typed_nodes (inlined P) ≤ max_nodes → A
  not_grown P (inline.Grown s n) told h small = absurd (above (typed_nodes (inlined P)) h.large small)
  not_grown P inline.Memory told h small = absurd (told refl)

  small_or_not : {A : Type 0} (bytes : List ℕ) (k : Kernel) (e : InlineRefusal) → IsKernel bytes k → IsInlined bytes e → A
  small_or_not bytes k e h g =
      let typed : k.typed ≡ inlined g.program = h.inlined ∙ ap inlined (same_typed bytes h.program g.program h.spelled g.spelled) in
      not_grown g.program e g.told g.cause (subst (λ t. typed_nodes t ≤ max_nodes) typed (subst (λ n. n ≤ max_nodes) h.typed_nodes h.small))

  same : (bytes : List ℕ) (a b : Result Kernel KernelRefusal) → a ≢ Err refusal.Memory → b ≢ Err refusal.Memory → Says bytes a → Says bytes b → a ≡ b
  same bytes (Err refusal.Memory) b m n h k = absurd (m refl)
  same bytes a (Err refusal.Memory) m n h k = absurd (n refl)
  same bytes (Ok a) (Ok b) m n h k = ap Ok (same_kernel bytes a b h k)
  same bytes (Ok a) (Err (refusal.Lex e)) m n h k = not_both bytes e (Ok h.spelled.program) k (program_parse bytes h.spelled.program h.spelled.within)
  same bytes (Ok a) (Err (refusal.Parse e)) m n h k = program_or_not bytes h.spelled.program e h.spelled.within k
  same bytes (Ok a) (Err (refusal.Types e)) m n h k = typed_or_not bytes h.program e h.spelled k
  same bytes (Ok a) (Err (refusal.Inline e)) m n h k = small_or_not bytes a e h k
  same bytes (Err (refusal.Lex e)) (Ok b) m n h k = not_both bytes e (Ok k.spelled.program) h (program_parse bytes k.spelled.program k.spelled.within)
  same bytes (Err (refusal.Lex e)) (Err (refusal.Lex f)) m n h k = ap (λ x. Err (refusal.Lex x)) (same_lexed bytes e f h k)
  same bytes (Err (refusal.Lex e)) (Err (refusal.Parse f)) m n h k = not_both bytes e (Err f) h (refused_parse bytes f k)
  same bytes (Err (refusal.Lex e)) (Err (refusal.Types f)) m n h k = not_both bytes e (Ok k.program) h (program_parse bytes k.program k.within)
  same bytes (Err (refusal.Lex e)) (Err (refusal.Inline f)) m n h k = not_both bytes e (Ok k.spelled.program) h (program_parse bytes k.spelled.program k.spelled.within)
  same bytes (Err (refusal.Parse e)) (Ok b) m n h k = program_or_not bytes k.spelled.program e k.spelled.within h
  same bytes (Err (refusal.Parse e)) (Err (refusal.Lex f)) m n h k = not_both bytes f (Err e) k (refused_parse bytes e h)
  same bytes (Err (refusal.Parse e)) (Err (refusal.Parse f)) m n h k =
      ap (λ x. Err (refusal.Parse x)) (err_is e f (same_parse bytes (Err e) (Err f) (refused_parse bytes e h) (refused_parse bytes f k)))
  same bytes (Err (refusal.Parse e)) (Err (refusal.Types f)) m n h k = program_or_not bytes k.program e k.within h
  same bytes (Err (refusal.Parse e)) (Err (refusal.Inline f)) m n h k = program_or_not bytes k.spelled.program e k.spelled.within h
  same bytes (Err (refusal.Types e)) (Ok b) m n h k = typed_or_not bytes k.program e k.spelled h
  same bytes (Err (refusal.Types e)) (Err (refusal.Lex f)) m n h k = not_both bytes f (Ok h.program) k (program_parse bytes h.program h.within)
  same bytes (Err (refusal.Types e)) (Err (refusal.Parse f)) m n h k = program_or_not bytes h.program f h.within k
  same bytes (Err (refusal.Types e)) (Err (refusal.Types f)) m n h k = ap (λ x. Err (refusal.Types x)) (same_types bytes e f h k)
  same bytes (Err (refusal.Types e)) (Err (refusal.Inline f)) m n h k = typed_or_not bytes k.program e k.spelled h
  same bytes (Err (refusal.Inline e)) (Ok b) m n h k = small_or_not bytes b e k h
  same bytes (Err (refusal.Inline e)) (Err (refusal.Lex f)) m n h k = not_both bytes f (Ok h.spelled.program) k (program_parse bytes h.spelled.program h.spelled.within)
  same bytes (Err (refusal.Inline e)) (Err (refusal.Parse f)) m n h k = program_or_not bytes h.spelled.program f h.spelled.within k
  same bytes (Err (refusal.Inline e)) (Err (refusal.Types f)) m n h k = typed_or_not bytes h.program f h.spelled k
  same bytes (Err (refusal.Inline e)) (Err (refusal.Inline f)) m n h k = ap (λ x. Err (refusal.Inline x)) (same_inlined bytes e f h k)

  err_is_memory : (bytes : List ℕ) (r other : Result Kernel KernelRefusal) → ((r ≡ Err refusal.Memory) ⊎ (r ≢ Err refusal.Memory)) → other ≢ Err refusal.Memory → Says bytes r → Says bytes other
      → (r ≡ other) ⊎ (r ≡ Err refusal.Memory)
  err_is_memory bytes r other which n h k = ⊎_elim (λ memory. inr memory) (λ m. inl (same bytes r other m n h k)) which

  memory_or_not : (r : Result Kernel KernelRefusal) → (r ≡ Err refusal.Memory) ⊎ (r ≢ Err refusal.Memory)
  memory_or_not (Err refusal.Memory) = inl refl
  memory_or_not r = inr (λ h. absurd (cc))

  pub one_answer : (bytes : List ℕ) → HasOneAnswer bytes
  one_answer bytes r h other n k = err_is_memory bytes r other (memory_or_not r) n h k
