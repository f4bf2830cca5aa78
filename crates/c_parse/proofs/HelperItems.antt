-- What reading an item before the word return says of all tokens.
use Rattle.std.proofs.Common.{◌≡◌, List, [], ◌∷◌, ◌++◌, All, true, false, Result, Ok, Err, IfOk, refl, sym, ◌∙◌, ap, subst, append_assoc}
use Rattle.c_ast.specs.declared.token.Token.{Token}
use Rattle.c_ast.specs.declared.token.Word.{Word}
use Rattle.c_ast.specs.declared.token.Word.TheVariants as word
use Rattle.c_ast.specs.declared.key.Key.TheVariants as key
use Rattle.c_ast.specs.declared.tree.Stmt.{Stmt}
use Rattle.c_ast.specs.Derives.{DerivesDeclaration, DerivesItems}
use Rattle.c_ast.specs.Nesting.{declaration_nesting, stmt_nesting}
use Rattle.c_parse.specs.declared.bar.Bar.TheVariants as bar
use Rattle.c_parse.specs.declared.refusal.Stop.{Stop}
use Rattle.c_parse.specs.Bars.{IsFreeOf, BeginsBarred, IsParted, JudgesBefore}
use Rattle.c_parse.specs.Reads.{Reads, Adds, PlainItems, ReadsStmt, is_else, is_else_word, key_of}
use Rattle.c_parse.specs.Stops.{is_type_at, stop_before}
use Rattle.c_parse.specs.Symbols.{Symbol, Reduction, bars, declarators, helper_body_move, move}
use Rattle.c_parse.specs.Traces.{judge}
use Rattle.c_parse.specs.Values.{Value}
use Rattle.c_parse.specs.Verdicts.{Judges, Tells}
use Rattle.std.proofs.lemmas.List.Elements.{All-nil, All-cons, All-append}
use Rattle.c_ast.specs.ProgramTexts.{IsNoReturn}
use Rattle.c_parse.proofs.EachToken.{Each, NoneBarred, each_of, each_front, each_back}
use Rattle.c_parse.proofs.StmtRules.{items_after}
use Rattle.c_parse.proofs.DenotedPrograms.{all_free}
use Rattle.c_parse.proofs.Judging.{judge_unfolds, judge_reduces}
use Rattle.c_parse.proofs.Slices.{slice_read, slice_stops}
use Rattle.c_parse.proofs.TracedParts.{leads_declaration}
use Rattle.c_parse.proofs.TracedStmts.{leads_stmt}
use Rattle.c_parse.proofs.TracedPrograms.{plain_more, plain_item_is, declared_more, limited_stays}
use Rattle.c_parse.proofs.Starting.{type_stays, statement_stays}

-- ---- what the symbol of a helper's statements becomes

helper_declares : (before behind : List Token) → is_type_at before ≡ true → (symbols : List Symbol)
    → judge (Symbol.helper_body 1 ∷ symbols) (before ++ behind) ≡ judge (Symbol.without bar.Returns (Symbol.a_type 1) ∷ (declared_more 1 ++ symbols)) (before ++ behind)
helper_declares [] behind h symbols = absurd (cc)
helper_declares (t ∷ ts) behind h symbols =
    judge_unfolds (Symbol.helper_body 1) (Symbol.without bar.Returns (Symbol.a_type 1)) (declared_more 1) symbols t (ts ++ behind) (ap (λ b. helper_body_move 1 b t.word) h)
    (limited_stays bar.Returns (move (Symbol.a_type 1) t.word) (bars bar.Returns t.word) (type_stays 1 t.word))

helper_states : (before behind : List Token) → is_type_at before ≡ false → (before ≡ [] → ⊥) → NoneBarred bar.Returns before → (symbols : List Symbol)
    → judge (Symbol.helper_body 1 ∷ symbols) (before ++ behind) ≡ judge (Symbol.without bar.Returns (Symbol.statement 1) ∷ (plain_more 1 ++ symbols)) (before ++ behind)
helper_states [] behind h some free symbols = absurd (some refl)
helper_states (t ∷ ts) behind h some free symbols =
    judge_unfolds (Symbol.helper_body 1) (Symbol.without bar.Returns (Symbol.statement 1)) (plain_more 1) symbols t (ts ++ behind) (ap (λ b. helper_body_move 1 b t.word) h ∙ plain_item_is 1 t.word free.0)
    (limited_stays bar.Returns (move (Symbol.statement 1) t.word) (bars bar.Returns t.word) (statement_stays 1 t.word))

-- what holds where a result is right
pub added_where : {A : Type 0} (P : A → Type 0) (result : Result A Stop) → IfOk result P → (x : A) → result ≡ Ok x → P x
added_where P (Ok y) h x e = let same : y ≡ x = cc in subst P same h
added_where P (Err d) h x e = absurd (cc)

-- ---- declarations

pub declared_before : {A : Type 0} (behind before after : List Token) (old new : List Stmt) (result : Result A Stop) → is_type_at before ≡ true → BeginsBarred bar.Returns behind → All (IsFreeOf bar.Returns) before
    → ((x : A) → result ≡ Ok x → Adds (λ ts ss. DerivesDeclaration ts ss) before after old new) → Judges (Symbol.a_type 1 ∷ declarators 1) [] before after result
    → JudgesBefore behind (Symbol.helper_body 1 ∷ []) (Symbol.helper_body 1 ∷ []) before after result
declared_before behind before after old new (Ok x) is begins free added judged = λ symbols.
    let a = added x refl in
    let d = a.derived in
    let more : List Symbol = Symbol.reduce Reduction.declared_items ∷ Symbol.helper_body 1 ∷ symbols in
    let all : NoneBarred bar.Returns (a.used ++ after) = subst (NoneBarred bar.Returns) a.split (each_of (IsFreeOf bar.Returns) before free) in
    let same : before ++ behind ≡ a.used ++ (after ++ behind) = ap (λ ts. ts ++ behind) a.split ∙ append_assoc a.used after behind in
    helper_declares before behind is symbols
    ∙ ap (λ ts. judge (Symbol.without bar.Returns (Symbol.a_type 1) ∷ (declared_more 1 ++ symbols)) ts) same
    ∙ slice_read bar.Returns (declaration_nesting 1 d) a.used after behind (Symbol.a_type 1 ∷ declarators 1) (Value.of_stmts a.used a.added ∷ []) (each_front (IsFreeOf bar.Returns) a.used after all)
    (leads_declaration 1 a.used (after ++ behind) a.added d [] []).runs (leads_declaration 1 a.used [] a.added d [] []).runs
    (ap (λ ts. judge (Symbol.a_type 1 ∷ declarators 1) ts) (sym a.split) ∙ judged []) (leads_declaration 1 a.used after a.added d [] []).runs more
    ∙ judge_reduces Reduction.declared_items (Symbol.helper_body 1 ∷ symbols) (after ++ behind)
declared_before behind before after old new (Err e) is begins free added judged = λ symbols.
    subst (λ v. Tells (stop_before behind e) v) (sym (helper_declares before behind is symbols))
    (slice_stops bar.Returns (Symbol.a_type 1 ∷ declarators 1) before behind e (each_of (IsFreeOf bar.Returns) before free) begins judged (Symbol.reduce Reduction.declared_items ∷ Symbol.helper_body 1 ∷ symbols))

-- ---- statements

barred_no_else : (w : Word) → bars bar.Returns w ≡ true → is_else_word (key_of w) ≡ false
barred_no_else (word.Key key.Return) h = refl
barred_no_else w h = absurd (cc)

no_else_behind : (after behind : List Token) → BeginsBarred bar.Returns behind → is_else after ≡ false → is_else (after ++ behind) ≡ false
no_else_behind [] behind BeginsBarred.none h = refl
no_else_behind [] behind (BeginsBarred.some t ts barred) h = barred_no_else t.word barred
no_else_behind (t ∷ ts) behind begins h = h

pub stated_before : (s : Stmt) (behind before after : List Token) → is_type_at before ≡ false → (before ≡ [] → ⊥) → BeginsBarred bar.Returns behind → All (IsFreeOf bar.Returns) before → ReadsStmt s before after
    → ((symbols : List Symbol) → judge (Symbol.statement 1 ∷ symbols) before ≡ judge symbols after)
    → (symbols : List Symbol) → judge (Symbol.helper_body 1 ∷ symbols) (before ++ behind) ≡ judge (Symbol.helper_body 1 ∷ symbols) (after ++ behind)
stated_before s behind before after is some begins free r judged symbols =
    let d = r.derived in
    let more : List Symbol = Symbol.reduce Reduction.statement_item ∷ Symbol.helper_body 1 ∷ symbols in
    let all : NoneBarred bar.Returns before = each_of (IsFreeOf bar.Returns) before free in
    let same : before ++ behind ≡ r.used ++ (after ++ behind) = ap (λ ts. ts ++ behind) r.split ∙ append_assoc r.used after behind in
    helper_states before behind is some all symbols
    ∙ ap (λ ts. judge (Symbol.without bar.Returns (Symbol.statement 1) ∷ (plain_more 1 ++ symbols)) ts) same
    ∙ slice_read bar.Returns (stmt_nesting 1 d) r.used after behind (Symbol.statement 1 ∷ []) (Value.of_stmt r.used s ∷ []) (each_front (IsFreeOf bar.Returns) r.used after (subst (NoneBarred bar.Returns) r.split all))
    (leads_stmt r.open_end r.used s d 1 (after ++ behind) (λ h. no_else_behind after behind begins (r.closed h)) [] []).runs (leads_stmt r.open_end r.used s d 1 [] (λ h. refl) [] []).runs
    (ap (λ ts. judge (Symbol.statement 1 ∷ []) ts) (sym r.split) ∙ judged []) (leads_stmt r.open_end r.used s d 1 after r.closed [] []).runs more
    ∙ judge_reduces Reduction.statement_item (Symbol.helper_body 1 ∷ symbols) (after ++ behind)

pub statement_stops_before : (behind before : List Token) (e : Stop) → is_type_at before ≡ false → (before ≡ [] → ⊥) → BeginsBarred bar.Returns behind → All (IsFreeOf bar.Returns) before
    → ((symbols : List Symbol) → Tells e (judge (Symbol.statement 1 ∷ symbols) before)) → (symbols : List Symbol) → Tells (stop_before behind e) (judge (Symbol.helper_body 1 ∷ symbols) (before ++ behind))
statement_stops_before behind before e is some begins free judged symbols =
    let all : NoneBarred bar.Returns before = each_of (IsFreeOf bar.Returns) before free in
    subst (λ v. Tells (stop_before behind e) v) (sym (helper_states before behind is some all symbols))
    (slice_stops bar.Returns (Symbol.statement 1 ∷ []) before behind e all begins judged (Symbol.reduce Reduction.statement_item ∷ Symbol.helper_body 1 ∷ symbols))

-- ---- all items

each_all : (P : Token → Type 0) (ts : List Token) → Each P ts → All P ts
each_all P [] h = All-nil P
each_all P (t ∷ ts) h = All-cons P t ts h.0 (each_all P ts h.1)

pub all_free_of : (ts : List Token) → NoneBarred bar.Returns ts → All (IsFreeOf bar.Returns) ts
all_free_of ts h = each_all (IsFreeOf bar.Returns) ts h

pub none_barred : (ts : List Token) → All (IsFreeOf bar.Returns) ts → NoneBarred bar.Returns ts
none_barred ts h = each_of (IsFreeOf bar.Returns) ts h

pub items_begun : (ss : List Stmt) (all front back : List Token) → IsParted bar.Returns all front back → ss ≡ [] → Reads (λ ts. PlainItems ts ss) all (front ++ back)
items_begun ss all front back parted none =
    record { used = []; split = parted.split; derived = subst (λ x. PlainItems [] x) (sym none) (record { derived = DerivesItems.done; plain = All-nil (λ t. IsNoReturn t.word) }) }

pub items_more : (old new : List Stmt) (all before after back : List Token) → Reads (λ ts. PlainItems ts old) all (before ++ back) → NoneBarred bar.Returns before → Adds (λ ts ss. DerivesItems ts ss) before after old new
    → Reads (λ ts. PlainItems ts new) all (after ++ back)
items_more old new all before after back r free a =
    let here : NoneBarred bar.Returns a.used = each_front (IsFreeOf bar.Returns) a.used after (subst (NoneBarred bar.Returns) a.split free) in
    record {
      used = r.used ++ a.used;
      split = r.split ∙ ap (λ ts. r.used ++ ts) (ap (λ ts. ts ++ back) a.split ∙ append_assoc a.used after back) ∙ sym (append_assoc r.used a.used (after ++ back));
      derived = subst (λ x. PlainItems (r.used ++ a.used) x) (sym a.grown) (record {
        derived = items_after r.used a.used old a.added r.derived.derived a.derived;
        plain = All-append (λ t. IsNoReturn t.word) r.used a.used r.derived.plain (all_free a.used here);
      });
    }

pub free_more : (old new : List Stmt) (before after : List Token) → NoneBarred bar.Returns before → Adds (λ ts ss. DerivesItems ts ss) before after old new → NoneBarred bar.Returns after
free_more old new before after free a = each_back (IsFreeOf bar.Returns) a.used after (subst (NoneBarred bar.Returns) a.split free)

pub items_ended : (ss : List Stmt) (all left back : List Token) → Reads (λ ts. PlainItems ts ss) all (left ++ back) → left ≡ [] → Reads (λ ts. PlainItems ts ss) all back
items_ended ss all left back r none = subst (λ ts. Reads (λ us. PlainItems us ss) all (ts ++ back)) none r

pub items_judged : (all left back : List Token) → ((symbols : List Symbol) → judge (Symbol.helper_body 1 ∷ symbols) all ≡ judge (Symbol.helper_body 1 ∷ symbols) (left ++ back)) → left ≡ []
    → (symbols : List Symbol) → judge (Symbol.helper_body 1 ∷ symbols) all ≡ judge (Symbol.helper_body 1 ∷ symbols) back
items_judged all left back judged none symbols = judged symbols ∙ ap (λ ts. judge (Symbol.helper_body 1 ∷ symbols) (ts ++ back)) none

pub items_stop : (all left back : List Token) (e : Stop) → ((symbols : List Symbol) → judge (Symbol.helper_body 1 ∷ symbols) all ≡ judge (Symbol.helper_body 1 ∷ symbols) (left ++ back))
    → ((symbols : List Symbol) → Tells e (judge (Symbol.helper_body 1 ∷ symbols) (left ++ back))) → (symbols : List Symbol) → Tells e (judge (Symbol.helper_body 1 ∷ symbols) all)
items_stop all left back e judged told symbols = subst (λ v. Tells e v) (sym (judged symbols)) (told symbols)
