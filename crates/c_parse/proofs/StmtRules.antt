-- The rules of assignments, declarations and statements, over what was read.
use Rattle.std.proofs.Common.{◌≡◌, ℕ, List, [], ◌∷◌, ◌++◌, Bool, true, false, Option, Some, None, refl, sym, ◌∙◌, ap, subst, append_assoc}
use Rattle.std.proofs.lemmas.List.{append-nil}
use Rattle.el_base.specs.declared.span.Span.{Span}
use Rattle.el_base.specs.declared.ty.Ty.{Ty}
use Rattle.c_ast.specs.declared.token.Token.{Token}
use Rattle.c_ast.specs.declared.key.Key.TheVariants as key
use Rattle.c_ast.specs.declared.mark.Mark.TheVariants as mark
use Rattle.c_ast.specs.declared.tree.Binary.{Binary}
use Rattle.c_ast.specs.declared.tree.Target.{Target}
use Rattle.c_ast.specs.declared.tree.Expr.{Expr}
use Rattle.c_ast.specs.declared.tree.Stmt.{Stmt}
use Rattle.c_ast.specs.declared.tree.StmtKind.{StmtKind}
use Rattle.c_ast.specs.declared.tree.StmtKind.TheVariants as stmt
use Rattle.c_ast.specs.Derives.{marked, keyed, named, place_of, stmt_of, between, DerivesType, DerivesExpr, DerivesIndices, DerivesTarget, DerivesSimple, DerivesOption, DerivesStep, DerivesDeclared, DerivesDeclarators, DerivesDeclaration, DerivesFirst, DerivesStmt, DerivesItems}
use Rattle.c_parse.specs.Reads.{Reads, Adds, Assigns, Steps, InParens, InBraces, Declaring, DerivesHead, ReadsStmt, is_else}
use Rattle.c_parse.proofs.Rules.{heads, joins, enclose, Placed}

-- ---- assignments and steps

pub reads_target : (x : List ℕ) (s at : Span) (es : List Expr) (before mid after : List Token) → before ≡ named x s ∷ mid → Reads (λ ts. DerivesIndices ts es) mid after → Placed at before after
    → Reads (λ ts. DerivesTarget ts (record { name = x; at = at; indices = es })) before after
reads_target x s at es before mid after p r place =
    let used : List Token = named x s ∷ r.used in
    let split : before ≡ used ++ after = heads (named x s) r.used before mid after p r.split in
    record { used = used; split = split; derived = subst (λ q. DerivesTarget used (record { name = x; at = q; indices = es })) (sym (place used split)) (DerivesTarget.target x s r.used es r.derived) }

pub reads_assign : (t : Target) (op : Option Binary) (e : Expr) (at : Span) (before m1 m2 after : List Token) → Reads (λ ts. DerivesTarget ts t) before m1 → Assigns op m1 m2 → Reads (λ ts. DerivesExpr 0 ts e) m2 after → Placed at before after
    → Reads (λ ts. DerivesSimple ts (record { kind = stmt.Assign t op e; at = at })) before after
reads_assign t op e at before m1 m2 after r1 o r2 place =
    let used : List Token = r1.used ++ marked o.mark o.place ∷ r2.used in
    let split : before ≡ used ++ after = joins r1.used (marked o.mark o.place ∷ r2.used) before m1 after r1.split (heads (marked o.mark o.place) r2.used m1 m2 after o.split r2.split) in
    record {
      used = used;
      split = split;
      derived = subst (λ q. DerivesSimple used (record { kind = stmt.Assign t op e; at = q })) (sym (place used split))
          (DerivesSimple.assign r1.used r2.used o.mark o.place t op e r1.derived o.operator r2.derived);
    }

pub reads_step_after : (t : Target) (up : Bool) (at : Span) (before m1 after : List Token) → Reads (λ ts. DerivesTarget ts t) before m1 → Steps up m1 after → Placed at before after
    → Reads (λ ts. DerivesSimple ts (record { kind = stmt.Step t up; at = at })) before after
reads_step_after t up at before m1 after r o place =
    let used : List Token = r.used ++ marked o.mark o.place ∷ [] in
    let split : before ≡ used ++ after = joins r.used (marked o.mark o.place ∷ []) before m1 after r.split o.split in
    record {
      used = used;
      split = split;
      derived = subst (λ q. DerivesSimple used (record { kind = stmt.Step t up; at = q })) (sym (place used split))
          (DerivesSimple.step_after r.used o.mark o.place t up r.derived o.operator);
    }

pub reads_step_before : (t : Target) (up : Bool) (at : Span) (before m1 after : List Token) → Steps up before m1 → Reads (λ ts. DerivesTarget ts t) m1 after → Placed at before after
    → Reads (λ ts. DerivesSimple ts (record { kind = stmt.Step t up; at = at })) before after
reads_step_before t up at before m1 after o r place =
    let used : List Token = marked o.mark o.place ∷ r.used in
    let split : before ≡ used ++ after = heads (marked o.mark o.place) r.used before m1 after o.split r.split in
    record {
      used = used;
      split = split;
      derived = subst (λ q. DerivesSimple used (record { kind = stmt.Step t up; at = q })) (sym (place used split))
          (DerivesSimple.step_before r.used o.mark o.place t up o.operator r.derived);
    }

-- ---- declarations

pub reads_declared_alone : (ty : Ty) (x : List ℕ) (s : Span) (before after : List Token) → before ≡ named x s ∷ after
    → Reads (λ ts. DerivesDeclared ty ts (record { kind = stmt.Declare x ty None; at = s })) before after
reads_declared_alone ty x s before after p = record { used = named x s ∷ []; split = p; derived = DerivesDeclared.without_value ty x s }

pub reads_declared_value : (ty : Ty) (x : List ℕ) (s a : Span) (e : Expr) (before m1 m2 after : List Token) → before ≡ named x s ∷ m1 → m1 ≡ marked mark.Assign a ∷ m2 → Reads (λ ts. DerivesExpr 0 ts e) m2 after
    → Reads (λ ts. DerivesDeclared ty ts (record { kind = stmt.Declare x ty (Some e); at = s })) before after
reads_declared_value ty x s a e before m1 m2 after p q r = record {
  used = named x s ∷ marked mark.Assign a ∷ r.used;
  split = heads (named x s) (marked mark.Assign a ∷ r.used) before m1 after p (heads (marked mark.Assign a) r.used m1 m2 after q r.split);
  derived = DerivesDeclared.with_value ty x s a r.used e r.derived;
}

pub adds_first : (ty : Ty) (d : Stmt) (before mid after : List Token) (old new : List Stmt) → Reads (λ ts. DerivesType ts ty) before mid → Reads (λ ts. DerivesDeclared ty ts d) mid after → new ≡ old ++ d ∷ []
    → Adds (λ ts ss. Declaring ty ts ss) before after old new
adds_first ty d before mid after old new r1 r2 grown = record {
  used = r1.used ++ r2.used;
  split = joins r1.used r2.used before mid after r1.split r2.split;
  added = d ∷ [];
  grown = grown;
  derived = Declaring.declaring r1.used r2.used (d ∷ []) r1.derived (DerivesDeclarators.last_one ty r2.used d r2.derived);
}

-- one declared name more, behind the others
declared_after : (ty : Ty) (ts us : List Token) (c : Span) (ds : List Stmt) (d : Stmt) → DerivesDeclarators ty ts ds → DerivesDeclared ty us d → DerivesDeclarators ty (ts ++ marked mark.Comma c ∷ us) (ds ++ d ∷ [])
declared_after ty ts us c ds d (DerivesDeclarators.last_one t vs x xd) dd = DerivesDeclarators.one_more ty vs us c x (d ∷ []) xd (DerivesDeclarators.last_one ty us d dd)
declared_after ty ts us c ds d (DerivesDeclarators.one_more t vs ws s x xs xd rest) dd =
    subst (λ qs. DerivesDeclarators ty qs (x ∷ (xs ++ d ∷ []))) (sym (append_assoc vs (marked mark.Comma s ∷ ws) (marked mark.Comma c ∷ us)))
    (DerivesDeclarators.one_more ty vs (ws ++ marked mark.Comma c ∷ us) s x (xs ++ d ∷ []) xd (declared_after ty ws us c xs d rest dd))

declaring_after : (ty : Ty) (ts us : List Token) (c : Span) (ds : List Stmt) (d : Stmt) → Declaring ty ts ds → DerivesDeclared ty us d → Declaring ty (ts ++ marked mark.Comma c ∷ us) (ds ++ d ∷ [])
declaring_after ty ts us c ds d (Declaring.declaring vs ws xs t rest) dd =
    subst (λ qs. Declaring ty qs (ds ++ d ∷ [])) (sym (append_assoc vs ws (marked mark.Comma c ∷ us)))
    (Declaring.declaring vs (ws ++ marked mark.Comma c ∷ us) (ds ++ d ∷ []) t (declared_after ty ws us c xs d rest dd))

pub adds_declared : (ty : Ty) (c : Span) (d : Stmt) (before m1 m2 after : List Token) (old mid new : List Stmt) → Adds (λ ts ss. Declaring ty ts ss) before m1 old mid → m1 ≡ marked mark.Comma c ∷ m2 → Reads (λ ts. DerivesDeclared ty ts d) m2 after → new ≡ mid ++ d ∷ []
    → Adds (λ ts ss. Declaring ty ts ss) before after old new
adds_declared ty c d before m1 m2 after old mid new a p r grown = record {
  used = a.used ++ marked mark.Comma c ∷ r.used;
  split = joins a.used (marked mark.Comma c ∷ r.used) before m1 after a.split (heads (marked mark.Comma c) r.used m1 m2 after p r.split);
  added = a.added ++ d ∷ [];
  grown = grown ∙ ap (λ xs. xs ++ d ∷ []) a.grown ∙ append_assoc old a.added (d ∷ []);
  derived = declaring_after ty a.used r.used c a.added d a.derived r.derived;
}

declaration_of : (ty : Ty) (ts : List Token) (z : Span) (ds : List Stmt) → Declaring ty ts ds → DerivesDeclaration (ts ++ marked mark.Semicolon z ∷ []) ds
declaration_of ty ts z ds (Declaring.declaring vs ws xs t rest) = subst (λ qs. DerivesDeclaration qs ds) (sym (append_assoc vs ws (marked mark.Semicolon z ∷ []))) (DerivesDeclaration.declaration vs ws z ty ds t rest)

pub adds_declaration : (ty : Ty) (z : Span) (before mid after : List Token) (old new : List Stmt) → Adds (λ ts ss. Declaring ty ts ss) before mid old new → mid ≡ marked mark.Semicolon z ∷ after
    → Adds (λ ts ss. DerivesDeclaration ts ss) before after old new
adds_declaration ty z before mid after old new a p = record {
  used = a.used ++ marked mark.Semicolon z ∷ [];
  split = joins a.used (marked mark.Semicolon z ∷ []) before mid after a.split p;
  added = a.added;
  grown = a.grown;
  derived = declaration_of ty a.used z a.added a.derived;
}

-- ---- items of blocks

pub reads_no_items : (ss : List Stmt) (before : List Token) → ss ≡ [] → Reads (λ ts. DerivesItems ts ss) before before
reads_no_items ss before h = record { used = []; split = refl; derived = subst (λ x. DerivesItems [] x) (sym h) DerivesItems.done }

pub items_after : (ts us : List Token) (ss rs : List Stmt) → DerivesItems ts ss → DerivesItems us rs → DerivesItems (ts ++ us) (ss ++ rs)
items_after ts us ss rs DerivesItems.done d = d
items_after ts us ss rs (DerivesItems.statement f vs ws x xs xd rest) d =
    subst (λ qs. DerivesItems qs (x ∷ (xs ++ rs))) (sym (append_assoc vs ws us)) (DerivesItems.statement f vs (ws ++ us) x (xs ++ rs) xd (items_after ws us xs rs rest d))
items_after ts us ss rs (DerivesItems.declares vs ws ds xs xd rest) d =
    subst (λ qs. DerivesItems qs ((ds ++ xs) ++ rs)) (sym (append_assoc vs ws us))
    (subst (λ ys. DerivesItems (vs ++ (ws ++ us)) ys) (sym (append_assoc ds xs rs)) (DerivesItems.declares vs (ws ++ us) ds (xs ++ rs) xd (items_after ws us xs rs rest d)))

pub reads_items_after : (old new : List Stmt) (before mid after : List Token) → Reads (λ ts. DerivesItems ts old) before mid → Adds (λ ts ss. DerivesItems ts ss) mid after old new
    → Reads (λ ts. DerivesItems ts new) before after
reads_items_after old new before mid after r a = record {
  used = r.used ++ a.used;
  split = joins r.used a.used before mid after r.split a.split;
  derived = subst (λ x. DerivesItems (r.used ++ a.used) x) (sym a.grown) (items_after r.used a.used old a.added r.derived a.derived);
}

pub adds_item : (before after : List Token) (old new : List Stmt) → Adds (λ ts ss. DerivesDeclaration ts ss) before after old new → Adds (λ ts ss. DerivesItems ts ss) before after old new
adds_item before after old new a = record {
  used = a.used;
  split = a.split;
  added = a.added;
  grown = a.grown;
  derived = subst (λ qs. DerivesItems qs a.added) (append-nil a.used) (subst (λ ys. DerivesItems (a.used ++ []) ys) (append-nil a.added) (DerivesItems.declares a.used [] a.added [] a.derived DerivesItems.done));
}

pub adds_stmt : (s : Stmt) (before after : List Token) (old new : List Stmt) → ReadsStmt s before after → new ≡ old ++ s ∷ [] → Adds (λ ts ss. DerivesItems ts ss) before after old new
adds_stmt s before after old new r grown = record {
  used = r.used;
  split = r.split;
  added = s ∷ [];
  grown = grown;
  derived = subst (λ qs. DerivesItems qs (s ∷ [])) (append-nil r.used) (DerivesItems.statement r.open_end r.used [] s [] r.derived DerivesItems.done);
}

pub reads_braces : (s z : Span) (ss : List Stmt) (before m1 m2 after : List Token) → before ≡ marked mark.OpenBrace s ∷ m1 → Reads (λ ts. DerivesItems ts ss) m1 m2 → m2 ≡ marked mark.CloseBrace z ∷ after
    → Reads (λ ts. InBraces ts ss) before after
reads_braces s z ss before m1 m2 after p r q = record {
  used = between mark.OpenBrace s r.used mark.CloseBrace z;
  split = enclose (marked mark.OpenBrace s) (marked mark.CloseBrace z) r.used before m1 m2 after p r.split q;
  derived = InBraces.in_braces r.used s z ss r.derived;
}

-- ---- statements

pub closed_end : (ts : List Token) → false ≡ true → is_else ts ≡ false
closed_end ts h = absurd (cc)

-- a statement that does not end in an if without else
whole : (s : Stmt) (used before after : List Token) → before ≡ used ++ after → DerivesStmt false used s → ReadsStmt s before after
whole s used before after split d = record { open_end = false; used = used; split = split; derived = d; closed = closed_end after }

placed : (f : Bool) (kind : StmtKind) (at : Span) (used : List Token) → at ≡ place_of used → DerivesStmt f used (stmt_of kind used) → DerivesStmt f used (record { kind = kind; at = at })
placed f kind at used e d = subst (λ p. DerivesStmt f used (record { kind = kind; at = p })) (sym e) d

block_of : (ts : List Token) (ss : List Stmt) → InBraces ts ss → DerivesStmt false ts (stmt_of (stmt.Block ss) ts)
block_of ts ss (InBraces.in_braces us s z xs d) = DerivesStmt.block us s z xs d

pub reads_block : (ss : List Stmt) (at : Span) (before after : List Token) → Reads (λ ts. InBraces ts ss) before after → Placed at before after → ReadsStmt (record { kind = stmt.Block ss; at = at }) before after
reads_block ss at before after r place = whole (record { kind = stmt.Block ss; at = at }) r.used before after r.split (placed false (stmt.Block ss) at r.used (place r.used r.split) (block_of r.used ss r.derived))

pub reads_empty : (s : Span) (before after : List Token) → before ≡ marked mark.Semicolon s ∷ after → ReadsStmt (record { kind = stmt.Empty; at = s }) before after
reads_empty s before after p = whole (record { kind = stmt.Empty; at = s }) (marked mark.Semicolon s ∷ []) before after p (DerivesStmt.empty s)

pub reads_simple : (s : Stmt) (z : Span) (before mid after : List Token) → Reads (λ ts. DerivesSimple ts s) before mid → mid ≡ marked mark.Semicolon z ∷ after → ReadsStmt s before after
reads_simple s z before mid after r p = whole s (r.used ++ marked mark.Semicolon z ∷ []) before after (joins r.used (marked mark.Semicolon z ∷ []) before mid after r.split p) (DerivesStmt.simple r.used z s r.derived)

pub reads_leaving : (s z : Span) (before mid after : List Token) → before ≡ keyed key.Break s ∷ mid → mid ≡ marked mark.Semicolon z ∷ after → ReadsStmt (record { kind = stmt.Break; at = s }) before after
reads_leaving s z before mid after p q = whole (record { kind = stmt.Break; at = s }) (keyed key.Break s ∷ marked mark.Semicolon z ∷ []) before after (p ∙ ap (λ v. keyed key.Break s ∷ v) q) (DerivesStmt.leaving s z)

pub reads_continuing : (s z : Span) (before mid after : List Token) → before ≡ keyed key.Continue s ∷ mid → mid ≡ marked mark.Semicolon z ∷ after → ReadsStmt (record { kind = stmt.Continue; at = s }) before after
reads_continuing s z before mid after p q = whole (record { kind = stmt.Continue; at = s }) (keyed key.Continue s ∷ marked mark.Semicolon z ∷ []) before after (p ∙ ap (λ v. keyed key.Continue s ∷ v) q) (DerivesStmt.continuing s z)

pub reads_returning : (e : Option Expr) (s z at : Span) (before m1 m2 after : List Token) → before ≡ keyed key.Return s ∷ m1 → Reads (λ ts. DerivesOption ts e) m1 m2 → Placed at before m2 → m2 ≡ marked mark.Semicolon z ∷ after
    → ReadsStmt (record { kind = stmt.Return e; at = at }) before after
reads_returning e s z at before m1 m2 after p r place q =
    let used : List Token = keyed key.Return s ∷ (r.used ++ marked mark.Semicolon z ∷ []) in
    whole (record { kind = stmt.Return e; at = at }) used before after (enclose (keyed key.Return s) (marked mark.Semicolon z) r.used before m1 m2 after p r.split q)
    (subst (λ w. DerivesStmt false used (record { kind = stmt.Return e; at = w })) (sym (place (keyed key.Return s ∷ r.used) (heads (keyed key.Return s) r.used before m1 m2 p r.split))) (DerivesStmt.returning s z r.used e r.derived))

if_of : (f : Bool) (s : Span) (gs us : List Token) (c : Expr) (b : Stmt) → InParens gs c → DerivesStmt f us b → DerivesStmt true (keyed key.If s ∷ (gs ++ us)) (stmt_of (stmt.If c b None) (keyed key.If s ∷ (gs ++ us)))
if_of f s gs us c b (InParens.in_parens ts a z x d) body = DerivesStmt.without_else f s a z ts us x b d body

pub reads_if : (c : Expr) (b y : Stmt) (s at : Span) (before m1 m2 after : List Token) → before ≡ keyed key.If s ∷ m1 → Reads (λ ts. InParens ts c) m1 m2 → ReadsStmt b m2 after → y ≡ b → is_else after ≡ false → Placed at before after
    → ReadsStmt (record { kind = stmt.If c y None; at = at }) before after
reads_if c b y s at before m1 m2 after p g r same last place =
    let used : List Token = keyed key.If s ∷ (g.used ++ r.used) in
    let split : before ≡ used ++ after = heads (keyed key.If s) (g.used ++ r.used) before m1 after p (joins g.used r.used m1 m2 after g.split r.split) in
    record {
      open_end = true;
      used = used;
      split = split;
      closed = (λ h. last);
      derived = subst (λ x. DerivesStmt true used (record { kind = stmt.If c x None; at = at })) (sym same)
          (placed true (stmt.If c b None) at used (place used split) (if_of r.open_end s g.used r.used c b g.derived r.derived));
    }

-- before an else a statement does not end in an if without else
must_close : (f : Bool) (ts : List Token) → (f ≡ true → is_else ts ≡ false) → is_else ts ≡ true → f ≡ false
must_close true ts closed h = let n : is_else ts ≡ false = closed refl in absurd (cc)
must_close false ts closed h = refl

if_else_of : (f : Bool) (s e : Span) (gs us vs : List Token) (c : Expr) (b d : Stmt) → InParens gs c → DerivesStmt false us b → DerivesStmt f vs d
    → DerivesStmt f ((keyed key.If s ∷ (gs ++ us)) ++ keyed key.Else e ∷ vs) (stmt_of (stmt.If c b (Some d)) ((keyed key.If s ∷ (gs ++ us)) ++ keyed key.Else e ∷ vs))
if_else_of f s e gs us vs c b d (InParens.in_parens ts a z x cond) body other = DerivesStmt.with_else f s a z e ts us vs x b d cond body other

pub reads_if_else : (c : Expr) (b y d w : Stmt) (s e at : Span) (before m1 m2 m3 m4 after : List Token) → before ≡ keyed key.If s ∷ m1 → Reads (λ ts. InParens ts c) m1 m2 → ReadsStmt b m2 m3 → y ≡ b
    → is_else m3 ≡ true → m3 ≡ keyed key.Else e ∷ m4 → ReadsStmt d m4 after → w ≡ d → Placed at before after
    → ReadsStmt (record { kind = stmt.If c y (Some w); at = at }) before after
reads_if_else c b y d w s e at before m1 m2 m3 m4 after p g r same next q o alike place =
    let front : List Token = keyed key.If s ∷ (g.used ++ r.used) in
    let used : List Token = front ++ keyed key.Else e ∷ o.used in
    let split : before ≡ used ++ after = joins front (keyed key.Else e ∷ o.used) before m3 after (heads (keyed key.If s) (g.used ++ r.used) before m1 m3 p (joins g.used r.used m1 m2 m3 g.split r.split))
    (heads (keyed key.Else e) o.used m3 m4 after q o.split) in
    let ended : r.open_end ≡ false = must_close r.open_end m3 r.closed next in
    record {
      open_end = o.open_end;
      used = used;
      split = split;
      closed = o.closed;
      derived = subst (λ x. DerivesStmt o.open_end used (record { kind = stmt.If c x (Some w); at = at })) (sym same)
          (subst (λ x. DerivesStmt o.open_end used (record { kind = stmt.If c b (Some x); at = at })) (sym alike)
          (placed o.open_end (stmt.If c b (Some d)) at used (place used split) (if_else_of o.open_end s e g.used r.used o.used c b d g.derived (subst (λ f. DerivesStmt f r.used b) ended r.derived) o.derived)));
    }

while_of : (f : Bool) (s : Span) (gs us : List Token) (c : Expr) (b : Stmt) → InParens gs c → DerivesStmt f us b → DerivesStmt f (keyed key.While s ∷ (gs ++ us)) (stmt_of (stmt.While c b) (keyed key.While s ∷ (gs ++ us)))
while_of f s gs us c b (InParens.in_parens ts a z x d) body = DerivesStmt.while_loop f s a z ts us x b d body

pub reads_while : (c : Expr) (b y : Stmt) (s at : Span) (before m1 m2 after : List Token) → before ≡ keyed key.While s ∷ m1 → Reads (λ ts. InParens ts c) m1 m2 → ReadsStmt b m2 after → y ≡ b → Placed at before after
    → ReadsStmt (record { kind = stmt.While c y; at = at }) before after
reads_while c b y s at before m1 m2 after p g r same place =
    let used : List Token = keyed key.While s ∷ (g.used ++ r.used) in
    let split : before ≡ used ++ after = heads (keyed key.While s) (g.used ++ r.used) before m1 after p (joins g.used r.used m1 m2 after g.split r.split) in
    record {
      open_end = r.open_end;
      used = used;
      split = split;
      closed = r.closed;
      derived = subst (λ x. DerivesStmt r.open_end used (record { kind = stmt.While c x; at = at })) (sym same)
          (placed r.open_end (stmt.While c b) at used (place used split) (while_of r.open_end s g.used r.used c b g.derived r.derived));
    }

do_of : (f : Bool) (s w y : Span) (us gs : List Token) (c : Expr) (b : Stmt) → DerivesStmt f us b → InParens gs c
    → DerivesStmt false ((keyed key.Do s ∷ (us ++ keyed key.While w ∷ gs)) ++ marked mark.Semicolon y ∷ []) (stmt_of (stmt.DoWhile b c) (keyed key.Do s ∷ (us ++ keyed key.While w ∷ gs)))
do_of f s w y us gs c b body (InParens.in_parens ts a z x d) = DerivesStmt.do_loop f s w a z y ts us x b body d

pub reads_do : (c : Expr) (b x : Stmt) (s w y at : Span) (before m1 m2 m3 m4 after : List Token) → before ≡ keyed key.Do s ∷ m1 → ReadsStmt b m1 m2 → x ≡ b → m2 ≡ keyed key.While w ∷ m3 → Reads (λ ts. InParens ts c) m3 m4 → Placed at before m4 → m4 ≡ marked mark.Semicolon y ∷ after
    → ReadsStmt (record { kind = stmt.DoWhile x c; at = at }) before after
reads_do c b x s w y at before m1 m2 m3 m4 after p r same q g place z =
    let front : List Token = keyed key.Do s ∷ (r.used ++ keyed key.While w ∷ g.used) in
    let used : List Token = front ++ marked mark.Semicolon y ∷ [] in
    let ahead : before ≡ front ++ m4 = heads (keyed key.Do s) (r.used ++ keyed key.While w ∷ g.used) before m1 m4 p (joins r.used (keyed key.While w ∷ g.used) m1 m2 m4 r.split (heads (keyed key.While w) g.used m2 m3 m4 q g.split)) in
    whole (record { kind = stmt.DoWhile x c; at = at }) used before after (joins front (marked mark.Semicolon y ∷ []) before m4 after ahead z)
    (subst (λ v. DerivesStmt false used (record { kind = stmt.DoWhile v c; at = at })) (sym same)
    (subst (λ v. DerivesStmt false used (record { kind = stmt.DoWhile b c; at = v })) (sym (place front ahead)) (do_of r.open_end s w y r.used g.used c b r.derived g.derived)))

-- ---- for

pub reads_head : (a b z : Span) (first : List Stmt) (c : Option Expr) (step : Option Stmt) (before m1 m2 m3 m4 m5 after : List Token) → before ≡ marked mark.Open a ∷ m1 → Reads (λ ts. DerivesFirst ts first) m1 m2
    → Reads (λ ts. DerivesOption ts c) m2 m3 → m3 ≡ marked mark.Semicolon b ∷ m4 → Reads (λ ts. DerivesStep ts step) m4 m5 → m5 ≡ marked mark.Close z ∷ after
    → Reads (λ ts. DerivesHead ts first c step) before after
reads_head a b z first c step before m1 m2 m3 m4 m5 after p1 r1 r2 p2 r3 p3 =
    let last : List Token = r3.used ++ marked mark.Close z ∷ [] in
    let middle : List Token = r2.used ++ marked mark.Semicolon b ∷ last in
    record {
      used = marked mark.Open a ∷ (r1.used ++ middle);
      split = heads (marked mark.Open a) (r1.used ++ middle) before m1 after p1 (joins r1.used middle m1 m2 after r1.split
          (joins r2.used (marked mark.Semicolon b ∷ last) m2 m3 after r2.split (heads (marked mark.Semicolon b) last m3 m4 after p2 (joins r3.used (marked mark.Close z ∷ []) m4 m5 after r3.split p3))));
      derived = DerivesHead.head a b z r1.used r2.used r3.used first c step r1.derived r2.derived r3.derived;
    }

-- the tokens of a head before those of a body
head_tokens : (a b z : Span) (ts us vs ws : List Token)
    → (marked mark.Open a ∷ (ts ++ (us ++ marked mark.Semicolon b ∷ (vs ++ marked mark.Close z ∷ [])))) ++ ws ≡ marked mark.Open a ∷ (ts ++ (us ++ marked mark.Semicolon b ∷ (vs ++ marked mark.Close z ∷ ws)))
head_tokens a b z ts us vs ws = ap (λ q. marked mark.Open a ∷ q) (append_assoc ts (us ++ marked mark.Semicolon b ∷ (vs ++ marked mark.Close z ∷ [])) ws
    ∙ ap (λ q. ts ++ q) (append_assoc us (marked mark.Semicolon b ∷ (vs ++ marked mark.Close z ∷ [])) ws
    ∙ ap (λ q. us ++ marked mark.Semicolon b ∷ q) (append_assoc vs (marked mark.Close z ∷ []) ws)))

for_of : (f : Bool) (s : Span) (hs ws : List Token) (first : List Stmt) (c : Option Expr) (step : Option Stmt) (b : Stmt) → DerivesHead hs first c step → DerivesStmt f ws b
    → DerivesStmt f (keyed key.For s ∷ (hs ++ ws)) (stmt_of (stmt.For first c step b) (keyed key.For s ∷ (hs ++ ws)))
for_of f s hs ws first c step b (DerivesHead.head a m z ts us vs fs e st fd cd sd) body =
    subst (λ q. DerivesStmt f (keyed key.For s ∷ q) (stmt_of (stmt.For first c step b) (keyed key.For s ∷ q))) (sym (head_tokens a m z ts us vs ws))
    (DerivesStmt.for_loop f s a m z ts us vs ws first c step b fd cd sd body)

pub reads_for : (first : List Stmt) (c : Option Expr) (step : Option Stmt) (b y : Stmt) (s at : Span) (before m1 m2 after : List Token) → before ≡ keyed key.For s ∷ m1 → Reads (λ ts. DerivesHead ts first c step) m1 m2 → ReadsStmt b m2 after → y ≡ b → Placed at before after
    → ReadsStmt (record { kind = stmt.For first c step y; at = at }) before after
reads_for first c step b y s at before m1 m2 after p h r same place =
    let used : List Token = keyed key.For s ∷ (h.used ++ r.used) in
    let split : before ≡ used ++ after = heads (keyed key.For s) (h.used ++ r.used) before m1 after p (joins h.used r.used m1 m2 after h.split r.split) in
    record {
      open_end = r.open_end;
      used = used;
      split = split;
      closed = r.closed;
      derived = subst (λ x. DerivesStmt r.open_end used (record { kind = stmt.For first c step x; at = at })) (sym same)
          (placed r.open_end (stmt.For first c step b) at used (place used split) (for_of r.open_end s h.used r.used first c step b h.derived r.derived));
    }

pub first_nothing : (z : Span) (ss : List Stmt) (before after : List Token) → before ≡ marked mark.Semicolon z ∷ after → ss ≡ [] → Reads (λ ts. DerivesFirst ts ss) before after
first_nothing z ss before after p h = record { used = marked mark.Semicolon z ∷ []; split = p; derived = subst (λ x. DerivesFirst (marked mark.Semicolon z ∷ []) x) (sym h) (DerivesFirst.nothing z) }

pub first_simple : (z : Span) (s : Stmt) (old ss : List Stmt) (before mid after : List Token) → Reads (λ ts. DerivesSimple ts s) before mid → mid ≡ marked mark.Semicolon z ∷ after → old ≡ [] → ss ≡ old ++ s ∷ [] → Reads (λ ts. DerivesFirst ts ss) before after
first_simple z s old ss before mid after r p none grown = record {
  used = r.used ++ marked mark.Semicolon z ∷ [];
  split = joins r.used (marked mark.Semicolon z ∷ []) before mid after r.split p;
  derived = subst (λ x. DerivesFirst (r.used ++ marked mark.Semicolon z ∷ []) x) (sym (grown ∙ ap (λ xs. xs ++ s ∷ []) none)) (DerivesFirst.simple r.used z s r.derived);
}

pub first_declares : (old ss : List Stmt) (before after : List Token) → old ≡ [] → Adds (λ ts ds. DerivesDeclaration ts ds) before after old ss → Reads (λ ts. DerivesFirst ts ss) before after
first_declares old ss before after none a = record {
  used = a.used;
  split = a.split;
  derived = subst (λ x. DerivesFirst a.used x) (sym (a.grown ∙ ap (λ xs. xs ++ a.added) none)) (DerivesFirst.declares a.used a.added a.derived);
}

pub option_absent : (before : List Token) → Reads (λ ts. DerivesOption ts None) before before
option_absent before = record { used = []; split = refl; derived = DerivesOption.absent }

pub option_present : (e : Expr) (before after : List Token) → Reads (λ ts. DerivesExpr 0 ts e) before after → Reads (λ ts. DerivesOption ts (Some e)) before after
option_present e before after r = record { used = r.used; split = r.split; derived = DerivesOption.present r.used e r.derived }

pub step_absent : (before : List Token) → Reads (λ ts. DerivesStep ts None) before before
step_absent before = record { used = []; split = refl; derived = DerivesStep.absent }

pub step_present : (s y : Stmt) (before after : List Token) → Reads (λ ts. DerivesSimple ts s) before after → y ≡ s → Reads (λ ts. DerivesStep ts (Some y)) before after
step_present s y before after r same = record { used = r.used; split = r.split; derived = subst (λ x. DerivesStep r.used (Some x)) (sym same) (DerivesStep.present r.used s r.derived) }
