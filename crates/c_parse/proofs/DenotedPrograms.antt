-- What parts without a word, helpers and programs stand for: each move of the table serves what its symbol means.
use Rattle.std.proofs.Common.{◌≡◌, ℕ, List, [], ◌∷◌, ◌++◌, map, All, Bool, true, false, zero-le, refl, sym, ◌∙◌, ap, subst, append_assoc}
use Rattle.std.proofs.lemmas.List.{append-nil}
use Rattle.std.proofs.lemmas.List.Elements.{All-nil, All-cons}
use Rattle.el_base.specs.declared.span.Span.{Span}
use Rattle.c_ast.specs.declared.token.Token.{Token}
use Rattle.c_ast.specs.declared.token.Word.{Word}
use Rattle.c_ast.specs.declared.token.Word.TheVariants as word
use Rattle.c_ast.specs.declared.key.Key.TheVariants as key
use Rattle.c_ast.specs.declared.mark.Mark.TheVariants as mark
use Rattle.c_ast.specs.declared.tree.Param.{Param}
use Rattle.c_ast.specs.declared.tree.Helper.{Helper}
use Rattle.c_ast.specs.declared.tree.Program.{Program}
use Rattle.c_ast.specs.Derives.{marked, keyed, named, between, DerivesType, DerivesExpr, DerivesDeclaration, DerivesItems, DerivesDims, DerivesParam, DerivesParamList, DerivesParams}
use Rattle.c_ast.specs.ProgramTexts.{IsNoReturn, block_tokens, helper_tokens, DerivesHelper, DerivesHelpers, DerivesProgram}
use Rattle.c_parse.specs.declared.bar.Bar.{Bar}
use Rattle.c_parse.specs.declared.bar.Bar.TheVariants as bar
use Rattle.c_parse.specs.Symbols.{Symbol, Reduction, Fixed, Move, followed, bars, limited, type_move, declarators, statement_move, result_move, kernel_rest, helper_symbols, plain_item_move, helper_body_move, program_move}
use Rattle.c_parse.proofs.EachToken.{each_front, each_back, each_join, NoneBarred}
use Rattle.c_parse.proofs.Denotations.{Has, HasStmt, Joined, Is, Before, HelperEnd, Means, Denotes, Serves, token, has, both, skip, last, after_word, after_name, by_word, denotes_apart, serves_followed}
use Rattle.c_parse.proofs.DenotedExprs.{type_serves}
use Rattle.c_parse.proofs.DenotedStmts.{statement_serves, declaration_of}
use Rattle.c_parse.proofs.DenotedKernels.{result_serves, kernel_derives}

-- ---- parts without a word

free_denotes : (b : Bar) (symbols : List Symbol) (ts : List Token) → Denotes (map (Symbol.without b) symbols) ts → Denotes symbols ts × NoneBarred b ts
free_denotes b [] ts d = (d, subst (NoneBarred b) (sym d) tt)
free_denotes b (s ∷ symbols) ts (Joined.joined fs bs p q) =
    let r = free_denotes b symbols bs q in (Joined.joined fs bs p.0 r.0, each_join (λ t. bars b t.word ≡ false) fs bs p.1 r.1)

pub limited_serves : (b : Bar) (a : Bool) (P : List Token → Type 0) (m : Move) (t : Token) (x : Bool) → bars b t.word ≡ x → Serves a P m t → Serves a (λ ts. P ts × NoneBarred b ts) (limited b a m x) t
limited_serves b a P Move.pass t x e h = h
limited_serves b a P Move.stuck t x e h = tt
limited_serves b a P (Move.take n new) t false e h = λ us d. let p = free_denotes b new us d in (h us p.0, (e, p.1))
limited_serves b true P (Move.take n new) t true e h = refl
limited_serves b false P (Move.take n new) t true e h = tt

-- tokens without the word return, said in both ways
pub returns_free : (w : Word) → bars bar.Returns w ≡ false → IsNoReturn w
returns_free (word.Key key.Return) h = absurd (cc)
returns_free (word.Key k) h = λ same. cc
returns_free w h = tt

pub all_free : (ts : List Token) → NoneBarred bar.Returns ts → All (λ t. IsNoReturn t.word) ts
all_free [] h = All-nil (λ t. IsNoReturn t.word)
all_free (t ∷ ts) h = All-cons (λ t. IsNoReturn t.word) t ts (returns_free t.word h.0) (all_free ts h.1)

-- parameters without brackets are scalars
no_brackets : (ts : List Token) (ds : List ℕ) → DerivesDims ts ds → NoneBarred bar.Brackets ts → ds ≡ []
no_brackets ts ds DerivesDims.no_more h = refl
no_brackets ts ds (DerivesDims.one_more s n z d t us es rest) h = let e : true ≡ false = h.0 in absurd (cc)

scalar : (ts : List Token) (p : Param) → DerivesParam ts p → NoneBarred bar.Brackets ts → p.dims ≡ []
scalar ts p (DerivesParam.param us ws t x s ds ty dims) h = no_brackets ws ds dims (each_back (λ t. bars bar.Brackets t.word ≡ false) us (named x s ∷ ws) h).1

scalar_list : (ts : List Token) (ps : List Param) → DerivesParamList ts ps → NoneBarred bar.Brackets ts → All (λ p. p.dims ≡ []) ps
scalar_list ts ps (DerivesParamList.last_one us p d) h = All-cons (λ p. p.dims ≡ []) p [] (scalar us p d h) (All-nil (λ p. p.dims ≡ []))
scalar_list ts ps (DerivesParamList.one_more us ws s p more d ds) h =
    let free = each_front (λ t. bars bar.Brackets t.word ≡ false) us (marked mark.Comma s ∷ ws) h in
    let behind = each_back (λ t. bars bar.Brackets t.word ≡ false) us (marked mark.Comma s ∷ ws) h in
    All-cons (λ p. p.dims ≡ []) p more (scalar us p d free) (scalar_list ws more ds behind.1)

pub scalars : (ts : List Token) (ps : List Param) → DerivesParams ts ps → NoneBarred bar.Brackets ts → All (λ p. p.dims ≡ []) ps
scalars ts ps DerivesParams.none h = All-nil (λ p. p.dims ≡ [])
scalars ts ps (DerivesParams.none_by_void s) h = All-nil (λ p. p.dims ≡ [])
scalars ts ps (DerivesParams.some us qs d) h = scalar_list us qs d h

-- ---- the statements of a helper

-- an item before the others
pub statement_first : (fs bs : List Token) → HasStmt fs × NoneBarred bar.Returns fs → HelperEnd bs → HelperEnd (fs ++ bs)
statement_first fs bs one (HelperEnd.helper_end ts us r e y body v items free value) =
    let tail : List Token = keyed key.Return r ∷ (us ++ marked mark.Semicolon e ∷ marked mark.CloseBrace y ∷ []) in
    subst HelperEnd (append_assoc fs ts tail)
    (HelperEnd.helper_end (fs ++ ts) us r e y (one.0.value ∷ body) v (DerivesItems.statement one.0.open_end fs ts one.0.value body one.0.derived items)
    (each_join (λ t. bars bar.Returns t.word ≡ false) fs ts one.1 free) value)

pub declaration_first : (fs bs : List Token) → Has DerivesDeclaration fs × NoneBarred bar.Returns fs → HelperEnd bs → HelperEnd (fs ++ bs)
declaration_first fs bs one (HelperEnd.helper_end ts us r e y body v items free value) =
    let tail : List Token = keyed key.Return r ∷ (us ++ marked mark.Semicolon e ∷ marked mark.CloseBrace y ∷ []) in
    subst HelperEnd (append_assoc fs ts tail)
    (HelperEnd.helper_end (fs ++ ts) us r e y (one.0.value ++ body) v (DerivesItems.declares fs ts one.0.value body one.0.derived items)
    (each_join (λ t. bars bar.Returns t.word ≡ false) fs ts one.1 free) value)

-- the return
ends_helper : (n : ℕ) (r : Span) (us : List Token) → Denotes (Symbol.expression n 0 ∷ Symbol.fixed n Fixed.semicolon ∷ Symbol.fixed n Fixed.closing_brace ∷ []) us → HelperEnd (keyed key.Return r ∷ us)
ends_helper n r us d = both (λ vs. HelperEnd (keyed key.Return r ∷ vs)) us d (λ fs bs value q. after_word (λ vs. HelperEnd (keyed key.Return r ∷ (fs ++ vs))) bs q (λ e cs k.
    by_word (λ vs. HelperEnd (keyed key.Return r ∷ (fs ++ marked mark.Semicolon e ∷ vs))) cs (last cs k) (λ y.
    let v : Has (DerivesExpr 0) fs = value zero-le in
    HelperEnd.helper_end [] fs r e y [] v.value DerivesItems.done tt v.derived)))

plain_item_serves_one : (n : ℕ) (w : Word) (s : Span)
    → Serves false HelperEnd (followed (limited bar.Returns false (statement_move n w) (bars bar.Returns w)) (Symbol.reduce Reduction.statement_item ∷ Symbol.helper_body n ∷ [])) (token w s)
plain_item_serves_one n w s =
    serves_followed (λ ts. HasStmt ts × NoneBarred bar.Returns ts) HelperEnd false (Symbol.reduce Reduction.statement_item ∷ Symbol.helper_body n ∷ []) (limited bar.Returns false (statement_move n w) (bars bar.Returns w)) (token w s)
    (λ fs bs one d. statement_first fs bs one (last bs (skip bs d)))
    (limited_serves bar.Returns false HasStmt (statement_move n w) (token w s) (bars bar.Returns w) refl (statement_serves n w s))

plain_item_serves : (n : ℕ) (w : Word) (s : Span) → Serves false HelperEnd (plain_item_move n w) (token w s)
plain_item_serves n (word.Key key.Return) s = ends_helper n s
plain_item_serves n w s = plain_item_serves_one n w s

declared_first_of : (n : ℕ) (fs us : List Token) → Has DerivesType fs × NoneBarred bar.Returns fs
    → Denotes (map (Symbol.without bar.Returns) (declarators n) ++ Symbol.reduce Reduction.declared_items ∷ Symbol.helper_body n ∷ []) us → HelperEnd (fs ++ us)
declared_first_of n fs us type d =
    both (λ vs. HelperEnd (fs ++ vs)) us (denotes_apart (map (Symbol.without bar.Returns) (declarators n)) (Symbol.reduce Reduction.declared_items ∷ Symbol.helper_body n ∷ []) us d) (λ gs bs p q.
    let names = free_denotes bar.Returns (declarators n) gs p in
    subst HelperEnd (append_assoc fs gs bs)
    (declaration_first (fs ++ gs) bs (declaration_of n fs gs type.0 names.0, each_join (λ t. bars bar.Returns t.word ≡ false) fs gs type.1 names.1) (last bs (skip bs q))))

pub helper_body_serves : (n : ℕ) (b : Bool) (w : Word) (s : Span) → Serves false HelperEnd (helper_body_move n b w) (token w s)
helper_body_serves n true w s =
    serves_followed (λ ts. Has DerivesType ts × NoneBarred bar.Returns ts) HelperEnd false (map (Symbol.without bar.Returns) (declarators n) ++ Symbol.reduce Reduction.declared_items ∷ Symbol.helper_body n ∷ [])
    (limited bar.Returns false (type_move n w) (bars bar.Returns w)) (token w s) (declared_first_of n)
    (limited_serves bar.Returns false (Has DerivesType) (type_move n w) (token w s) (bars bar.Returns w) refl (type_serves n w s))
helper_body_serves n false w s = plain_item_serves n w s

-- ---- programs

-- the tokens of a helper before others
helper_then : (f : Span) (rs : List Token) (x : List ℕ) (s a : Span) (ps : List Token) (z b : Span) (ts : List Token) (r : Span) (us : List Token) (e y : Span) (more : List Token)
    → helper_tokens f rs x s a ps z b ts r us e y ++ more
    ≡ keyed key.Static f ∷ (rs ++ named x s ∷ marked mark.Open a ∷ (ps ++ marked mark.Close z ∷ marked mark.OpenBrace b ∷ ((ts ++ keyed key.Return r ∷ (us ++ marked mark.Semicolon e ∷ marked mark.CloseBrace y ∷ [])) ++ more)))
helper_then f rs x s a ps z b ts r us e y more =
    let group : List Token = between mark.Open a ps mark.Close z in
    let block : List Token = block_tokens b ts r us e y in
    let tail : List Token = us ++ marked mark.Semicolon e ∷ [] in
    let brace : List Token = marked mark.CloseBrace y ∷ [] in
    ap (λ v. keyed key.Static f ∷ v) (append_assoc rs (named x s ∷ (group ++ block)) more)
    ∙ ap (λ v. keyed key.Static f ∷ (rs ++ named x s ∷ v)) (append_assoc group block more)
    ∙ ap (λ v. keyed key.Static f ∷ (rs ++ named x s ∷ marked mark.Open a ∷ v)) (append_assoc ps (marked mark.Close z ∷ []) (block ++ more))
    ∙ ap (λ v. keyed key.Static f ∷ (rs ++ named x s ∷ marked mark.Open a ∷ (ps ++ marked mark.Close z ∷ marked mark.OpenBrace b ∷ (v ++ more))))
    (append_assoc ts (keyed key.Return r ∷ tail) brace ∙ ap (λ v. ts ++ keyed key.Return r ∷ v) (append_assoc us (marked mark.Semicolon e ∷ []) brace))

-- a helper before a program
helper_before : (ts us : List Token) (h : Helper) (p : Program) → DerivesHelper ts h → DerivesProgram us p → Has DerivesProgram (ts ++ us)
helper_before ts us h p d (DerivesProgram.program vs ws hs tree ds k) =
    has DerivesProgram (ts ++ (vs ++ ws)) (record { helpers = h ∷ hs; kernel = tree })
    (subst (λ qs. DerivesProgram qs (record { helpers = h ∷ hs; kernel = tree })) (append_assoc ts vs ws) (DerivesProgram.program (ts ++ vs) ws (h ∷ hs) tree (DerivesHelpers.one_more ts vs h hs d ds) k))

-- the block of a helper, behind what stands before it
with_block : (f : Span) (rs : List Token) (x : List ℕ) (s a : Span) (ps : List Token) (z b : Span) (hs more : List Token) → Has DerivesType rs → Has DerivesParams ps → NoneBarred bar.Brackets ps → HelperEnd hs → Has DerivesProgram more
    → Has DerivesProgram (keyed key.Static f ∷ (rs ++ named x s ∷ marked mark.Open a ∷ (ps ++ marked mark.Close z ∷ marked mark.OpenBrace b ∷ (hs ++ more))))
with_block f rs x s a ps z b hs more type params free (HelperEnd.helper_end ts us r e y body v items plain value) rest =
    let h : Helper = record { name = x; at = s; result = type.value; params = params.value; body = body; value = v } in
    subst (Has DerivesProgram) (helper_then f rs x s a ps z b ts r us e y more)
    (helper_before (helper_tokens f rs x s a ps z b ts r us e y) more h rest.value
    (DerivesHelper.helper rs ps ts us x f s a z b r e y type.value params.value body v type.derived params.derived (scalars ps params.value params.derived free) items (all_free ts plain) value) rest.derived)

helper_of : (f : Span) (us : List Token) → Denotes (helper_symbols ++ Symbol.program ∷ []) us → Has DerivesProgram (keyed key.Static f ∷ us)
helper_of f us d = both (λ vs. Has DerivesProgram (keyed key.Static f ∷ vs)) us d (λ rs bs type q. after_name (λ vs. Has DerivesProgram (keyed key.Static f ∷ (rs ++ vs))) bs q (λ x s cs r.
    after_word (λ vs. Has DerivesProgram (keyed key.Static f ∷ (rs ++ named x s ∷ vs))) cs r (λ a es k.
    both (λ vs. Has DerivesProgram (keyed key.Static f ∷ (rs ++ named x s ∷ marked mark.Open a ∷ vs))) es k (λ gs hs params l.
    in_block f rs x s a gs hs type params l))))
  where
    behind : (rs : List Token) (x : List ℕ) (s a : Span) (ps : List Token) (z : Span) (hs : List Token) → Has DerivesType rs → Has DerivesParams ps → NoneBarred bar.Brackets ps
        → Joined (Is (word.Mark mark.OpenBrace)) (Denotes (Symbol.reduce Reduction.no_items ∷ Symbol.helper_body 1 ∷ Symbol.reduce Reduction.helper ∷ Symbol.program ∷ [])) hs
        → Has DerivesProgram (keyed key.Static f ∷ (rs ++ named x s ∷ marked mark.Open a ∷ (ps ++ marked mark.Close z ∷ hs)))
    behind rs x s a ps z hs type params free l =
        after_word (λ vs. Has DerivesProgram (keyed key.Static f ∷ (rs ++ named x s ∷ marked mark.Open a ∷ (ps ++ marked mark.Close z ∷ vs)))) hs l (λ b ks m.
        both (λ vs. Has DerivesProgram (keyed key.Static f ∷ (rs ++ named x s ∷ marked mark.Open a ∷ (ps ++ marked mark.Close z ∷ marked mark.OpenBrace b ∷ vs)))) ks (skip ks m) (λ ns ms block o.
        with_block f rs x s a ps z b ns ms type params free block (last ms (skip ms o))))

    in_block : (g : Span) (rs : List Token) (x : List ℕ) (s a : Span) (gs hs : List Token) → Has DerivesType rs → Before mark.Close (Has DerivesParams) gs × NoneBarred bar.Brackets gs
        → Joined (Is (word.Mark mark.OpenBrace)) (Denotes (Symbol.reduce Reduction.no_items ∷ Symbol.helper_body 1 ∷ Symbol.reduce Reduction.helper ∷ Symbol.program ∷ [])) hs
        → Has DerivesProgram (keyed key.Static f ∷ (rs ++ named x s ∷ marked mark.Open a ∷ (gs ++ hs)))
    in_block g rs x s a gs hs type (Before.before ps z params, free) l =
        subst (λ vs. Has DerivesProgram (keyed key.Static f ∷ (rs ++ named x s ∷ marked mark.Open a ∷ vs))) (sym (append_assoc ps (marked mark.Close z ∷ []) hs))
        (behind rs x s a ps z hs type params (each_front (λ t. bars bar.Brackets t.word ≡ false) ps (marked mark.Close z ∷ []) free) l)

-- a kernel without helpers
kernel_alone : (ts us : List Token) → Means (Symbol.result 0) ts → Denotes (kernel_rest ++ Symbol.reduce Reduction.program ∷ []) us → Has DerivesProgram (ts ++ us)
kernel_alone ts us result d =
    both (λ vs. Has DerivesProgram (ts ++ vs)) us (denotes_apart kernel_rest (Symbol.reduce Reduction.program ∷ []) us d) (λ fs bs p q.
    let kernel = kernel_derives (ts ++ fs) (Joined.joined ts fs result p) in
    let alone : Has DerivesProgram (ts ++ fs) = has DerivesProgram (ts ++ fs) (record { helpers = []; kernel = kernel.value }) (DerivesProgram.program [] (ts ++ fs) [] kernel.value DerivesHelpers.no_more kernel.derived) in
    subst (λ vs. Has DerivesProgram (ts ++ vs)) (sym (ap (λ vs. fs ++ vs) (skip bs q) ∙ append-nil fs)) alone)

program_of_kernel : (w : Word) (s : Span) → Serves false (Has DerivesProgram) (followed (result_move 0 w) (kernel_rest ++ Symbol.reduce Reduction.program ∷ [])) (token w s)
program_of_kernel w s = serves_followed (Means (Symbol.result 0)) (Has DerivesProgram) false (kernel_rest ++ Symbol.reduce Reduction.program ∷ []) (result_move 0 w) (token w s) kernel_alone (result_serves 0 w s)

pub program_serves : (w : Word) (s : Span) → Serves false (Has DerivesProgram) (program_move w) (token w s)
program_serves (word.Key key.Static) s = helper_of s
program_serves w s = program_of_kernel w s
