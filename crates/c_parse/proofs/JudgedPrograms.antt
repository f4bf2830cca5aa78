-- The verdict over helpers and programs, by what was read of them.
use Rattle.std.proofs.Common.{◌≡◌, ℕ, List, [], ◌∷◌, ◌++◌, Some, true, refl, sym, ◌∙◌, ap, subst, append_assoc}
use Rattle.std.proofs.lemmas.List.{append-nil}
use Rattle.el_base.specs.declared.span.Span.{Span}
use Rattle.el_base.specs.declared.ty.Ty.{Ty}
use Rattle.c_ast.specs.declared.token.Token.{Token}
use Rattle.c_ast.specs.declared.token.Word.{Word}
use Rattle.c_ast.specs.declared.token.Word.TheVariants as word
use Rattle.c_ast.specs.declared.key.Key.TheVariants as key
use Rattle.c_ast.specs.declared.mark.Mark.TheVariants as mark
use Rattle.c_ast.specs.declared.tree.Param.{Param}
use Rattle.c_ast.specs.declared.tree.Stmt.{Stmt}
use Rattle.c_ast.specs.declared.tree.Expr.{Expr}
use Rattle.c_ast.specs.declared.tree.Tree.{Tree}
use Rattle.c_ast.specs.declared.tree.Helper.{Helper}
use Rattle.c_ast.specs.Derives.{marked, keyed, named, DerivesType, DerivesParams, DerivesExpr, Derives}
use Rattle.c_ast.specs.Nesting.{params_nesting}
use Rattle.c_ast.specs.ProgramTexts.{block_tokens, DerivesHelper, DerivesHelpers, DerivesProgram}
use Rattle.c_parse.specs.declared.bar.Bar.TheVariants as bar
use Rattle.c_parse.specs.declared.refusal.Stop.{Stop}
use Rattle.c_parse.specs.Bars.{IsFreeOf, BeginsBarred, IsParted}
use Rattle.c_parse.specs.Reads.{Reads, ClosedParams, ClosedScalars, PlainItems, key_at, key_of}
use Rattle.c_parse.specs.Stops.{Refuses, stop_at, stop_before}
use Rattle.c_parse.specs.Symbols.{Symbol, Reduction, bars, followed, program_symbols, kernel_symbols, program_move, result_move}
use Rattle.c_parse.specs.Traces.{Verdict, judge}
use Rattle.c_parse.specs.Values.{Value}
use Rattle.c_parse.specs.Verdicts.{Tells}
use Rattle.c_parse.proofs.EachToken.{NoneBarred, each_of, each_front}
use Rattle.c_parse.proofs.Rules.{heads, joins, enclose}
use Rattle.c_parse.proofs.Chains.{Same, Fails, fails_from, memory_fails}
use Rattle.c_parse.proofs.Judging.{judge_unfolds, judge_misses, judge_reduces}
use Rattle.c_parse.proofs.Slices.{slice_read, slice_stops}
use Rattle.c_parse.proofs.DenotedPrograms.{scalars}
use Rattle.c_parse.proofs.TracedKernels.{leads_params}
use Rattle.c_parse.proofs.TracedPrograms.{kernel_more, result_stays}

-- ---- parameters

pub reads_closed_params : (ps : List Param) (z : Span) (before mid after : List Token) → Reads (λ ts. DerivesParams ts ps) before mid → mid ≡ marked mark.Close z ∷ after → Reads (λ ts. ClosedParams ts ps) before after
reads_closed_params ps z before mid after r p = record {
  used = r.used ++ marked mark.Close z ∷ [];
  split = joins r.used (marked mark.Close z ∷ []) before mid after r.split p;
  derived = ClosedParams.closed_params r.used z ps r.derived;
}

scalars_of : (ts : List Token) (ps : List Param) → ClosedParams ts ps → NoneBarred bar.Brackets ts → ClosedScalars ts ps
scalars_of ts ps (ClosedParams.closed_params us z qs d) free =
    ClosedScalars.closed_scalars us z qs d (scalars us qs d (each_front (IsFreeOf bar.Brackets) us (marked mark.Close z ∷ []) free))

pub reads_scalars : (ps : List Param) (all front back left new : List Token) → IsParted bar.Brackets all front back → Reads (λ ts. ClosedParams ts ps) front left → new ≡ left ++ back → Reads (λ ts. ClosedScalars ts ps) all new
reads_scalars ps all front back left new parted r is =
    let free : NoneBarred bar.Brackets (r.used ++ left) = subst (NoneBarred bar.Brackets) r.split (each_of (IsFreeOf bar.Brackets) front parted.free) in
    record {
      used = r.used;
      split = parted.split ∙ ap (λ ts. ts ++ back) r.split ∙ append_assoc r.used left back ∙ ap (λ ts. r.used ++ ts) (sym is);
      derived = scalars_of r.used ps r.derived (each_front (IsFreeOf bar.Brackets) r.used left free);
    }

closed_judged : (used left back : List Token) (ps : List Param) → ClosedParams used ps → NoneBarred bar.Brackets used → judge (Symbol.params 1 ∷ []) (used ++ left) ≡ judge [] left
    → (symbols : List Symbol) → judge (Symbol.without bar.Brackets (Symbol.params 1) ∷ symbols) (used ++ (left ++ back)) ≡ judge symbols (left ++ back)
closed_judged used left back ps (ClosedParams.closed_params ts z qs d) free same symbols =
    let end : Token = marked mark.Close z in
    slice_read bar.Brackets (params_nesting 1 d ++ 1 ∷ []) (ts ++ end ∷ []) left back (Symbol.params 1 ∷ []) (Value.of_token end ∷ Value.of_params ts qs ∷ []) free
    (leads_params 1 ts (left ++ back) z qs d [] []).runs (leads_params 1 ts [] z qs d [] []).runs same (leads_params 1 ts left z qs d [] []).runs symbols

pub scalars_read : (ps : List Param) (all front back left new : List Token) → IsParted bar.Brackets all front back → Reads (λ ts. ClosedParams ts ps) front left → new ≡ left ++ back
    → ((symbols : List Symbol) → judge (Symbol.params 1 ∷ symbols) front ≡ judge symbols left) → (symbols : List Symbol) → judge (Symbol.without bar.Brackets (Symbol.params 1) ∷ symbols) all ≡ judge symbols new
scalars_read ps all front back left new parted r is judged symbols =
    let free : NoneBarred bar.Brackets (r.used ++ left) = subst (NoneBarred bar.Brackets) r.split (each_of (IsFreeOf bar.Brackets) front parted.free) in
    ap (λ ts. judge (Symbol.without bar.Brackets (Symbol.params 1) ∷ symbols) ts) (parted.split ∙ ap (λ ts. ts ++ back) r.split ∙ append_assoc r.used left back)
    ∙ closed_judged r.used left back ps r.derived (each_front (IsFreeOf bar.Brackets) r.used left free) (ap (λ ts. judge (Symbol.params 1 ∷ []) ts) (sym r.split) ∙ judged []) symbols
    ∙ ap (λ ts. judge symbols ts) (sym is)

pub scalars_stop : (all front back : List Token) (d e : Stop) → IsParted bar.Brackets all front back → ((symbols : List Symbol) → Tells d (judge (Symbol.params 1 ∷ symbols) front)) → e ≡ stop_before back d
    → (symbols : List Symbol) → Tells e (judge (Symbol.without bar.Brackets (Symbol.params 1) ∷ symbols) all)
scalars_stop all front back d e parted told is symbols =
    subst (λ x. Tells x (judge (Symbol.without bar.Brackets (Symbol.params 1) ∷ symbols) all)) (sym is)
    (subst (λ ts. Tells (stop_before back d) (judge (Symbol.without bar.Brackets (Symbol.params 1) ∷ symbols) ts)) (sym parted.split)
    (slice_stops bar.Brackets (Symbol.params 1 ∷ []) front back d (each_of (IsFreeOf bar.Brackets) front parted.free) parted.begins told symbols))

-- ---- programs

program_unfolds : (w : Word) → (key_of w ≡ Some key.Static → ⊥) → program_move w ≡ followed (result_move 0 w) kernel_more
program_unfolds (word.Key key.Static) h = absurd (h refl)
program_unfolds w h = refl

-- where no helper comes next, a kernel is expected
pub program_is_kernel : (before : List Token) → (key_at before ≡ Some key.Static → ⊥) → Same (Symbol.program ∷ []) (kernel_symbols ++ Symbol.reduce Reduction.program ∷ []) before before
program_is_kernel [] h = record { holds = λ symbols. judge_misses Symbol.program symbols refl ∙ sym (judge_misses (Symbol.result 0) (kernel_more ++ symbols) refl) }
program_is_kernel (t ∷ ts) h = record { holds = λ symbols. judge_unfolds Symbol.program (Symbol.result 0) kernel_more symbols t ts (program_unfolds t.word h) (result_stays t.word) }

-- ---- what helpers are made of

helper_from : (rs cs ts us : List Token) (x : List ℕ) (f s a b r e y : Span) (t : Ty) (ps : List Param) (body : List Stmt) (v : Expr) → DerivesType rs t → ClosedScalars cs ps → PlainItems ts body → DerivesExpr 0 us v
    → DerivesHelper (keyed key.Static f ∷ (rs ++ named x s ∷ (marked mark.Open a ∷ (cs ++ block_tokens b ts r us e y)))) (record { name = x; at = s; result = t; params = ps; body = body; value = v })
helper_from rs cs ts us x f s a b r e y t ps body v type (ClosedScalars.closed_scalars qs z xs d plain) items value =
    DerivesHelper.helper rs qs ts us x f s a z b r e y t xs body v type d plain items.derived items.plain value

pub reads_helper : (x : List ℕ) (f s a b r e y : Span) (t : Ty) (ps : List Param) (body : List Stmt) (v : Expr) (before m1 m2 m3 m4 m5 m6 m7 m8 m9 m10 after : List Token)
    → before ≡ keyed key.Static f ∷ m1 → Reads (λ ts. DerivesType ts t) m1 m2 → m2 ≡ named x s ∷ m3 → m3 ≡ marked mark.Open a ∷ m4 → Reads (λ ts. ClosedScalars ts ps) m4 m5 → m5 ≡ marked mark.OpenBrace b ∷ m6
    → Reads (λ ts. PlainItems ts body) m6 m7 → m7 ≡ keyed key.Return r ∷ m8 → Reads (λ ts. DerivesExpr 0 ts v) m8 m9 → m9 ≡ marked mark.Semicolon e ∷ m10 → m10 ≡ marked mark.CloseBrace y ∷ after
    → Reads (λ ts. DerivesHelper ts (record { name = x; at = s; result = t; params = ps; body = body; value = v })) before after
reads_helper x f s a b r e y t ps body v before m1 m2 m3 m4 m5 m6 m7 m8 m9 m10 after p1 r1 p2 p3 r2 p4 r3 p5 r4 p6 p7 =
    let tail : List Token = r4.used ++ marked mark.Semicolon e ∷ [] in
    let inner : List Token = r3.used ++ keyed key.Return r ∷ tail in
    let block : List Token = block_tokens b r3.used r r4.used e y in
    let rest : List Token = marked mark.Open a ∷ (r2.used ++ block) in
    let held : m6 ≡ inner ++ m10 = joins r3.used (keyed key.Return r ∷ tail) m6 m7 m10 r3.split (heads (keyed key.Return r) tail m7 m8 m10 p5 (joins r4.used (marked mark.Semicolon e ∷ []) m8 m9 m10 r4.split p6)) in
    record {
      used = keyed key.Static f ∷ (r1.used ++ named x s ∷ rest);
      split = heads (keyed key.Static f) (r1.used ++ named x s ∷ rest) before m1 after p1 (joins r1.used (named x s ∷ rest) m1 m2 after r1.split (heads (named x s) rest m2 m3 after p2
          (heads (marked mark.Open a) (r2.used ++ block) m3 m4 after p3 (joins r2.used block m4 m5 after r2.split (enclose (marked mark.OpenBrace b) (marked mark.CloseBrace y) inner m5 m6 m10 after p4 held p7)))));
      derived = helper_from r1.used r2.used r3.used r4.used x f s a b r e y t ps body v r1.derived r2.derived r3.derived r4.derived;
    }

-- one helper more, behind the others
helper_after : (ts us : List Token) (hs : List Helper) (h : Helper) → DerivesHelpers ts hs → DerivesHelper us h → DerivesHelpers (ts ++ us) (hs ++ h ∷ [])
helper_after ts us hs h DerivesHelpers.no_more d = subst (λ qs. DerivesHelpers qs (h ∷ [])) (append-nil us) (DerivesHelpers.one_more us [] h [] d DerivesHelpers.no_more)
helper_after ts us hs h (DerivesHelpers.one_more vs ws g gs e more) d =
    subst (λ qs. DerivesHelpers qs (g ∷ (gs ++ h ∷ []))) (sym (append_assoc vs ws us)) (DerivesHelpers.one_more vs (ws ++ us) g (gs ++ h ∷ []) e (helper_after ws us gs h more d))

pub reads_no_helpers : (hs : List Helper) (before : List Token) → hs ≡ [] → Reads (λ ts. DerivesHelpers ts hs) before before
reads_no_helpers hs before h = record { used = []; split = refl; derived = subst (λ x. DerivesHelpers [] x) (sym h) DerivesHelpers.no_more }

pub reads_helper_after : (hs new : List Helper) (h : Helper) (before mid after : List Token) → Reads (λ ts. DerivesHelpers ts hs) before mid → Reads (λ ts. DerivesHelper ts h) mid after → new ≡ hs ++ h ∷ []
    → Reads (λ ts. DerivesHelpers ts new) before after
reads_helper_after hs new h before mid after r1 r2 grown = record {
  used = r1.used ++ r2.used;
  split = joins r1.used r2.used before mid after r1.split r2.split;
  derived = subst (λ x. DerivesHelpers (r1.used ++ r2.used) x) (sym grown) (helper_after r1.used r2.used hs h r1.derived r2.derived);
}

pub program_read : (hs : List Helper) (tree : Tree) (before mid after : List Token) → Reads (λ ts. DerivesHelpers ts hs) before mid → Reads (λ ts. Derives ts tree) mid after → after ≡ []
    → DerivesProgram before (record { helpers = hs; kernel = tree })
program_read hs tree before mid after r1 r2 none =
    subst (λ ts. DerivesProgram ts (record { helpers = hs; kernel = tree }))
    (sym (r1.split ∙ ap (λ ts. r1.used ++ ts) (r2.split ∙ ap (λ ts. r2.used ++ ts) none ∙ append-nil r2.used)))
    (DerivesProgram.program r1.used r2.used hs tree r1.derived r2.derived)

-- ---- a whole helper

-- behind the items of a helper no token is left, or the word return comes
pub helper_word_fails : {more : List Symbol} (before : List Token) (e : Stop) → BeginsBarred bar.Returns before → Refuses (λ w. w ≡ word.Key key.Return → ⊥) before e → Fails (Symbol.helper_body 1 ∷ more) before e
helper_word_fails {more} before e begins (Refuses.ended none told) =
    fails_from none (record { holds = λ symbols. subst (λ x. Tells x (judge (Symbol.helper_body 1 ∷ (more ++ symbols)) [])) (sym told) (judge_misses (Symbol.helper_body 1) (more ++ symbols) refl) })
helper_word_fails {more} before e begins (Refuses.unfit t ts split misfit told) = absurd (misfit (by t.word (at_barred (subst (BeginsBarred bar.Returns) split begins))))
  where
    at_barred : BeginsBarred bar.Returns (t ∷ ts) → bars bar.Returns t.word ≡ true
    at_barred (BeginsBarred.some u us barred) = barred

    by : (w : Word) → bars bar.Returns w ≡ true → w ≡ word.Key key.Return
    by (word.Key key.Return) h = refl
    by w h = absurd (cc)
helper_word_fails before e begins (Refuses.memory told) = memory_fails told

-- ---- whole programs

-- helpers and a kernel were read
pub program_whole : (before mid after : List Token) → ((symbols : List Symbol) → judge (program_symbols ++ symbols) before ≡ judge (Symbol.program ∷ symbols) mid) → (key_at mid ≡ Some key.Static → ⊥)
    → ((symbols : List Symbol) → judge (kernel_symbols ++ symbols) mid ≡ judge symbols after) → (symbols : List Symbol) → judge (program_symbols ++ symbols) before ≡ judge symbols after
program_whole before mid after helpers none kernel symbols =
    helpers symbols ∙ (program_is_kernel mid none).holds symbols ∙ kernel (Symbol.reduce Reduction.program ∷ symbols) ∙ judge_reduces Reduction.program symbols after

pub program_kernel_stops : (before mid : List Token) (e : Stop) → ((symbols : List Symbol) → judge (program_symbols ++ symbols) before ≡ judge (Symbol.program ∷ symbols) mid) → (key_at mid ≡ Some key.Static → ⊥)
    → ((symbols : List Symbol) → Tells e (judge (kernel_symbols ++ symbols) mid)) → Tells e (judge program_symbols before)
program_kernel_stops before mid e helpers none told =
    subst (λ v. Tells e v) (sym (helpers [] ∙ (program_is_kernel mid none).holds [])) (told (Symbol.reduce Reduction.program ∷ []))

-- behind the kernel a token comes
pub program_goes_on : (before after : List Token) → ((symbols : List Symbol) → judge (program_symbols ++ symbols) before ≡ judge symbols after) → (after ≡ [] → ⊥) → Tells (stop_at after) (judge program_symbols before)
program_goes_on before [] whole some = absurd (some refl)
program_goes_on before (t ∷ ts) whole some = whole []

pub program_ends : (before after : List Token) → ((symbols : List Symbol) → judge (program_symbols ++ symbols) before ≡ judge symbols after) → after ≡ [] → judge program_symbols before ≡ Verdict.whole
program_ends before after whole none = whole [] ∙ ap (λ ts. judge [] ts) none
