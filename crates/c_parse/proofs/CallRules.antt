-- The rules of arguments, over what was read.
use Rattle.std.proofs.Common.{◌≡◌, List, [], ◌∷◌, ◌++◌, refl, sym, ◌∙◌, ap, subst, append_assoc}
use Rattle.std.proofs.lemmas.List.{append-nil}
use Rattle.el_base.specs.declared.span.Span.{Span}
use Rattle.c_ast.specs.declared.token.Token.{Token}
use Rattle.c_ast.specs.declared.mark.Mark.TheVariants as mark
use Rattle.c_ast.specs.declared.tree.Expr.{Expr}
use Rattle.c_ast.specs.Derives.{marked, between, DerivesExpr, DerivesArgs, DerivesMoreArgs}
use Rattle.c_parse.specs.Reads.{Reads, InCall}
use Rattle.c_parse.proofs.Rules.{heads, joins, enclose}

pub reads_arguments : (s z : Span) (es : List Expr) (before m1 m2 after : List Token) → before ≡ marked mark.Open s ∷ m1 → Reads (λ ts. DerivesArgs ts es) m1 m2 → m2 ≡ marked mark.Close z ∷ after
    → Reads (λ ts. InCall ts es) before after
reads_arguments s z es before m1 m2 after p r q = record {
  used = between mark.Open s r.used mark.Close z;
  split = enclose (marked mark.Open s) (marked mark.Close z) r.used before m1 m2 after p r.split q;
  derived = InCall.in_call r.used s z es r.derived;
}

pub reads_no_arguments : (es : List Expr) (before : List Token) → es ≡ [] → Reads (λ ts. DerivesArgs ts es) before before
reads_no_arguments es before h = record { used = []; split = refl; derived = subst (λ x. DerivesArgs [] x) (sym h) DerivesArgs.no_arguments }

-- arguments, of which there is one at least
pub record SomeArguments (es : List Expr) (ts : List Token) : Type 0 where
  pub first : Expr
  pub others : List Expr
  pub is : es ≡ first ∷ others
  pub front : List Token
  pub back : List Token
  pub split : ts ≡ front ++ back
  pub one : DerivesExpr 0 front first
  pub more : DerivesMoreArgs back others

pub reads_first_argument : (e : Expr) (es old : List Expr) (before after : List Token) → Reads (λ ts. DerivesExpr 0 ts e) before after → old ≡ [] → es ≡ old ++ e ∷ [] → Reads (SomeArguments es) before after
reads_first_argument e es old before after r none grown = record {
  used = r.used;
  split = r.split;
  derived = record {
    first = e;
    others = [];
    is = grown ∙ ap (λ xs. xs ++ e ∷ []) none;
    front = r.used;
    back = [];
    split = sym (append-nil r.used);
    one = r.derived;
    more = DerivesMoreArgs.no_further;
  };
}

-- one argument more, behind the others
further_after : (ts us : List Token) (c : Span) (es : List Expr) (e : Expr) → DerivesMoreArgs ts es → DerivesExpr 0 us e → DerivesMoreArgs (ts ++ marked mark.Comma c ∷ us) (es ++ e ∷ [])
further_after ts us c es e DerivesMoreArgs.no_further d =
    subst (λ ws. DerivesMoreArgs (marked mark.Comma c ∷ ws) (e ∷ [])) (append-nil us) (DerivesMoreArgs.one_further us [] c e [] d DerivesMoreArgs.no_further)
further_after ts us c es e (DerivesMoreArgs.one_further vs ws s x xs xd rest) d =
    subst (λ qs. DerivesMoreArgs (marked mark.Comma s ∷ qs) (x ∷ (xs ++ e ∷ []))) (sym (append_assoc vs ws (marked mark.Comma c ∷ us)))
    (DerivesMoreArgs.one_further vs (ws ++ marked mark.Comma c ∷ us) s x (xs ++ e ∷ []) xd (further_after ws us c xs e rest d))

pub reads_argument_after : (es new : List Expr) (e : Expr) (c : Span) (before m1 m2 after : List Token) → Reads (SomeArguments es) before m1 → m1 ≡ marked mark.Comma c ∷ m2
    → Reads (λ ts. DerivesExpr 0 ts e) m2 after → new ≡ es ++ e ∷ [] → Reads (SomeArguments new) before after
reads_argument_after es new e c before m1 m2 after r1 q r2 grown =
    let tail : List Token = marked mark.Comma c ∷ r2.used in
    let d = r1.derived in
    record {
      used = r1.used ++ tail;
      split = joins r1.used tail before m1 after r1.split (heads (marked mark.Comma c) r2.used m1 m2 after q r2.split);
      derived = record {
        first = d.first;
        others = d.others ++ e ∷ [];
        is = grown ∙ ap (λ xs. xs ++ e ∷ []) d.is;
        front = d.front;
        back = d.back ++ tail;
        split = ap (λ ts. ts ++ tail) d.split ∙ append_assoc d.front d.back tail;
        one = d.one;
        more = further_after d.back r2.used c d.others e d.more r2.derived;
      };
    }

pub reads_argument_list : (es : List Expr) (before after : List Token) → Reads (SomeArguments es) before after → Reads (λ ts. DerivesArgs ts es) before after
reads_argument_list es before after r =
    let d = r.derived in
    record {
      used = r.used;
      split = r.split;
      derived = subst (λ ts. DerivesArgs ts es) (sym d.split) (subst (λ xs. DerivesArgs (d.front ++ d.back) xs) (sym d.is) (DerivesArgs.arguments d.front d.back d.first d.others d.one d.more));
    }
