-- The rules of parameters and kernels, over what was read.
use Rattle.std.proofs.Common.{◌≡◌, ℕ, List, [], ◌∷◌, ◌++◌, Option, Some, None, refl, sym, ◌∙◌, ap, subst, append_assoc}
use Rattle.std.proofs.lemmas.List.{append-nil}
use Rattle.el_base.specs.declared.span.Span.{Span}
use Rattle.el_base.specs.declared.ty.Ty.{Ty}
use Rattle.c_ast.specs.declared.token.Token.{Token}
use Rattle.c_ast.specs.declared.key.Key.TheVariants as key
use Rattle.c_ast.specs.declared.mark.Mark.TheVariants as mark
use Rattle.c_ast.specs.declared.tree.Param.{Param}
use Rattle.c_ast.specs.declared.tree.Stmt.{Stmt}
use Rattle.c_ast.specs.declared.tree.Tree.{Tree}
use Rattle.c_ast.specs.Derives.{marked, keyed, named, numbered, between, DerivesType, DerivesDims, DerivesParam, DerivesParamList, DerivesParams, DerivesResult, Derives}
use Rattle.c_parse.specs.Reads.{Reads, Numbered, InBraces, DerivesDim}
use Rattle.c_parse.proofs.Rules.{heads, joins, enclose}

-- ---- parameters

pub reads_dim : (s z : Span) (d : ℕ) (before m1 m2 after : List Token) → before ≡ marked mark.OpenBracket s ∷ m1 → Numbered d m1 m2 → m2 ≡ marked mark.CloseBracket z ∷ after → Reads (λ ts. DerivesDim ts d) before after
reads_dim s z d before m1 m2 after p n q = record {
  used = between mark.OpenBracket s (numbered d n.ty n.place ∷ []) mark.CloseBracket z;
  split = enclose (marked mark.OpenBracket s) (marked mark.CloseBracket z) (numbered d n.ty n.place ∷ []) before m1 m2 after p n.split q;
  derived = DerivesDim.dim s n.place z d n.ty;
}

pub reads_no_dims : (ds : List ℕ) (before : List Token) → ds ≡ [] → Reads (λ ts. DerivesDims ts ds) before before
reads_no_dims ds before h = record { used = []; split = refl; derived = subst (λ x. DerivesDims [] x) (sym h) DerivesDims.no_more }

-- one dimension more, behind the others
dim_after : (ts us : List Token) (ds : List ℕ) (d : ℕ) → DerivesDims ts ds → DerivesDim us d → DerivesDims (ts ++ us) (ds ++ d ∷ [])
dim_after ts us ds d DerivesDims.no_more (DerivesDim.dim s n z x t) =
    subst (λ ws. DerivesDims ws (x ∷ [])) (append-nil (between mark.OpenBracket s (numbered x t n ∷ []) mark.CloseBracket z)) (DerivesDims.one_more s n z x t [] [] DerivesDims.no_more)
dim_after ts us ds d (DerivesDims.one_more s n z x t ws xs rest) b = DerivesDims.one_more s n z x t (ws ++ us) (xs ++ d ∷ []) (dim_after ws us xs d rest b)

pub reads_dim_after : (ds new : List ℕ) (d : ℕ) (before mid after : List Token) → Reads (λ ts. DerivesDims ts ds) before mid → Reads (λ ts. DerivesDim ts d) mid after → new ≡ ds ++ d ∷ [] → Reads (λ ts. DerivesDims ts new) before after
reads_dim_after ds new d before mid after r1 r2 grown = record {
  used = r1.used ++ r2.used;
  split = joins r1.used r2.used before mid after r1.split r2.split;
  derived = subst (λ x. DerivesDims (r1.used ++ r2.used) x) (sym grown) (dim_after r1.used r2.used ds d r1.derived r2.derived);
}

pub reads_param : (t : Ty) (x : List ℕ) (s : Span) (ds : List ℕ) (before m1 m2 after : List Token) → Reads (λ ts. DerivesType ts t) before m1 → m1 ≡ named x s ∷ m2 → Reads (λ ts. DerivesDims ts ds) m2 after
    → Reads (λ ts. DerivesParam ts (record { name = x; at = s; ty = t; dims = ds })) before after
reads_param t x s ds before m1 m2 after r1 p r2 = record {
  used = r1.used ++ named x s ∷ r2.used;
  split = joins r1.used (named x s ∷ r2.used) before m1 after r1.split (heads (named x s) r2.used m1 m2 after p r2.split);
  derived = DerivesParam.param r1.used r2.used t x s ds r1.derived r2.derived;
}

pub reads_first_param : (p : Param) (ps old : List Param) (before after : List Token) → Reads (λ ts. DerivesParam ts p) before after → old ≡ [] → ps ≡ old ++ p ∷ [] → Reads (λ ts. DerivesParamList ts ps) before after
reads_first_param p ps old before after r none grown = record {
  used = r.used;
  split = r.split;
  derived = subst (λ x. DerivesParamList r.used x) (sym (grown ∙ ap (λ xs. xs ++ p ∷ []) none)) (DerivesParamList.last_one r.used p r.derived);
}

-- one parameter more, behind the others
param_after : (ts us : List Token) (c : Span) (ps : List Param) (p : Param) → DerivesParamList ts ps → DerivesParam us p → DerivesParamList (ts ++ marked mark.Comma c ∷ us) (ps ++ p ∷ [])
param_after ts us c ps p (DerivesParamList.last_one vs x xd) d = DerivesParamList.one_more vs us c x (p ∷ []) xd (DerivesParamList.last_one us p d)
param_after ts us c ps p (DerivesParamList.one_more vs ws s x xs xd rest) d =
    subst (λ qs. DerivesParamList qs (x ∷ (xs ++ p ∷ []))) (sym (append_assoc vs (marked mark.Comma s ∷ ws) (marked mark.Comma c ∷ us)))
    (DerivesParamList.one_more vs (ws ++ marked mark.Comma c ∷ us) s x (xs ++ p ∷ []) xd (param_after ws us c xs p rest d))

pub reads_param_after : (ps new : List Param) (p : Param) (c : Span) (before m1 m2 after : List Token) → Reads (λ ts. DerivesParamList ts ps) before m1 → m1 ≡ marked mark.Comma c ∷ m2 → Reads (λ ts. DerivesParam ts p) m2 after → new ≡ ps ++ p ∷ []
    → Reads (λ ts. DerivesParamList ts new) before after
reads_param_after ps new p c before m1 m2 after r1 q r2 grown = record {
  used = r1.used ++ marked mark.Comma c ∷ r2.used;
  split = joins r1.used (marked mark.Comma c ∷ r2.used) before m1 after r1.split (heads (marked mark.Comma c) r2.used m1 m2 after q r2.split);
  derived = subst (λ x. DerivesParamList (r1.used ++ marked mark.Comma c ∷ r2.used) x) (sym grown) (param_after r1.used r2.used c ps p r1.derived r2.derived);
}

pub reads_no_params : (ps : List Param) (before : List Token) → ps ≡ [] → Reads (λ ts. DerivesParams ts ps) before before
reads_no_params ps before h = record { used = []; split = refl; derived = subst (λ x. DerivesParams [] x) (sym h) DerivesParams.none }

pub reads_void_params : (ps : List Param) (s : Span) (before after : List Token) → before ≡ keyed key.Void s ∷ after → ps ≡ [] → Reads (λ ts. DerivesParams ts ps) before after
reads_void_params ps s before after p h = record { used = keyed key.Void s ∷ []; split = p; derived = subst (λ x. DerivesParams (keyed key.Void s ∷ []) x) (sym h) (DerivesParams.none_by_void s) }

pub reads_params : (ps : List Param) (before after : List Token) → Reads (λ ts. DerivesParamList ts ps) before after → Reads (λ ts. DerivesParams ts ps) before after
reads_params ps before after r = record { used = r.used; split = r.split; derived = DerivesParams.some r.used ps r.derived }

-- ---- kernels

pub reads_void : (s : Span) (before after : List Token) → before ≡ keyed key.Void s ∷ after → Reads (λ ts. DerivesResult ts None) before after
reads_void s before after p = record { used = keyed key.Void s ∷ []; split = p; derived = DerivesResult.void s }

pub reads_result : (t : Ty) (before after : List Token) → Reads (λ ts. DerivesType ts t) before after → Reads (λ ts. DerivesResult ts (Some t)) before after
reads_result t before after r = record { used = r.used; split = r.split; derived = DerivesResult.a_type r.used t r.derived }

kernel_of : (rs gs bs : List Token) (x : List ℕ) (s a z : Span) (r : Option Ty) (ps : List Param) (ss : List Stmt) → DerivesResult rs r → DerivesParams gs ps → InBraces bs ss
    → Derives (rs ++ named x s ∷ (between mark.Open a gs mark.Close z ++ bs)) (record { name = x; at = s; result = r; params = ps; body = ss })
kernel_of rs gs bs x s a z r ps ss rd pd (InBraces.in_braces ts b e xs d) = Derives.kernel rs gs ts x s a z b e r ps xs rd pd d

pub reads_kernel : (x : List ℕ) (s a z : Span) (r : Option Ty) (ps : List Param) (ss : List Stmt) (before m1 m2 m3 m4 m5 after : List Token)
    → Reads (λ ts. DerivesResult ts r) before m1 → m1 ≡ named x s ∷ m2 → m2 ≡ marked mark.Open a ∷ m3 → Reads (λ ts. DerivesParams ts ps) m3 m4 → m4 ≡ marked mark.Close z ∷ m5 → Reads (λ ts. InBraces ts ss) m5 after
    → Reads (λ ts. Derives ts (record { name = x; at = s; result = r; params = ps; body = ss })) before after
reads_kernel x s a z r ps ss before m1 m2 m3 m4 m5 after r1 p1 p2 r2 p3 r3 =
    let group : List Token = between mark.Open a r2.used mark.Close z in
    record {
      used = r1.used ++ named x s ∷ (group ++ r3.used);
      split = joins r1.used (named x s ∷ (group ++ r3.used)) before m1 after r1.split (heads (named x s) (group ++ r3.used) m1 m2 after p1
          (joins group r3.used m2 m5 after (enclose (marked mark.Open a) (marked mark.Close z) r2.used m2 m3 m4 m5 p2 r2.split p3) r3.split));
      derived = kernel_of r1.used r2.used r3.used x s a z r ps ss r1.derived r2.derived r3.derived;
    }

-- the whole list was read
pub read_all : (tree : Tree) (tokens after : List Token) → Reads (λ ts. Derives ts tree) tokens after → after ≡ [] → Derives tokens tree
read_all tree tokens after r none = subst (λ ts. Derives ts tree) (sym (r.split ∙ ap (λ us. r.used ++ us) none ∙ append-nil r.used)) r.derived
