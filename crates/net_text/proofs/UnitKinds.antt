-- Which kind of unit has a text.
use Rattle.std.proofs.Common.{◌≡◌, ◌≢◌, ℕ, Bool, true, List, ◌∷◌, ◌++◌, codes, drop, get_or, decimal, Option, Some, None, refl, sym, ap, ◌∙◌, arith, lit<, eqb}
use Rattle.std.proofs.lemmas.Bool.{false≢true}
use Rattle.el_base.specs.declared.operation.Op1.{Op1 as First}
use Rattle.el_base.specs.declared.operation.Op2.{Op2 as Second}
use Rattle.el_base.specs.Names.{op1_name, op2_name}
use Rattle.net_types.specs.declared.net.Port.{Port}
use Rattle.net_types.specs.declared.net.Unit.{Unit as Kind}
use Rattle.net_types.specs.declared.net.Unit.TheVariants.{Entry, Param, Const, Op1, Op2, Select, Fork, Mux, Cmerge, Branch, Sink, Read, Lsq, Exit}
use Rattle.net_text.specs.declared.version.Version.{Version}
use Rattle.net_text.specs.declared.version.Version.TheVariants.{Two}
use Rattle.el_base.specs.Limits.{IsNumbered}
use Rattle.net_text.specs.Fits.{GroupsFit, QueueFits, MarkFits, UnitFits, IsWritten, WritesUnit}
use Rattle.net_text.specs.Pieces.{ports_text, groups_text}
use Rattle.net_text.proofs.Cuts.{cut_unique, decimal_lacks}
use Rattle.net_text.proofs.GroupTexts.{ports_lack, groups_lack}
use Rattle.net_text.specs.Reads.{Reads, lacks, PairFits, PlainFits, ConstFits, pair_text, kind_text, unit_text, queue_end}
use Rattle.net_text.proofs.ReadLemmas.{after_word}

-- a unit's line is the word `unit`, a space and its kind
pub unit_kind : (ver : Version) (u : Kind) → unit_text ver u ≡ codes "unit " ++ kind_text ver u
unit_kind ver Exit = refl
unit_kind ver _ = refl

-- only a queue's text begins as a queue's does
pub queue_only : (ver : Version) (Q : Kind → Type 0) (args : List ℕ) → ((a d : ℕ) (ps : List Port) (gs : List (List ℕ)) (m : Bool) → Q (Lsq a d ps gs m)) → (u : Kind) → kind_text ver u ≡ codes "lsq " ++ args → Q u
queue_only ver Q args f (Lsq a d ps gs m) e = f a d ps gs m
queue_only ver Q args f u e = absurd (false≢true (ap (λ l. eqb (get_or l 0 0) 108) e))

-- where no kind but a queue's reads a text, no other unit has it
pub plain_none : (text : List ℕ) → (text ≡ codes "entry" → ⊥) → (text ≡ codes "exit" → ⊥)
    → ((n : ℕ) → IsNumbered n → codes "param " ++ decimal n ≡ text → ⊥)
    → ((n : ℕ) → IsNumbered n → codes "select " ++ decimal n ≡ text → ⊥)
    → ((p : ℕ × ℕ) → PairFits p → codes "fork " ++ pair_text 32 p ≡ text → ⊥)
    → ((p : ℕ × ℕ) → PairFits p → codes "mux " ++ pair_text 32 p ≡ text → ⊥)
    → ((n : ℕ) → IsNumbered n → codes "cmerge " ++ decimal n ≡ text → ⊥)
    → ((n : ℕ) → IsNumbered n → codes "branch " ++ decimal n ≡ text → ⊥)
    → ((n : ℕ) → IsNumbered n → codes "sink " ++ decimal n ≡ text → ⊥)
    → ((n : ℕ) → IsNumbered n → codes "read " ++ decimal n ≡ text → ⊥)
    → ((p : ℕ × ℕ) → ConstFits p → codes "const " ++ pair_text 32 p ≡ text → ⊥)
    → ((op : First) → Unit {0} → codes "op1 " ++ op1_name op ≡ text → ⊥)
    → ((op : Second) → Unit {0} → codes "op2 " ++ op2_name op ≡ text → ⊥)
    → (u : Kind) → PlainFits u → kind_text Two u ≡ text → ⊥
plain_none t entry exit param select fork mux cmerge branch sink read const op1 op2 Entry f e = entry (sym e)
plain_none t entry exit param select fork mux cmerge branch sink read const op1 op2 Exit f e = exit (sym e)
plain_none t entry exit param select fork mux cmerge branch sink read const op1 op2 (Param n) f e = param n f e
plain_none t entry exit param select fork mux cmerge branch sink read const op1 op2 (Select n) f e = select n f e
plain_none t entry exit param select fork mux cmerge branch sink read const op1 op2 (Fork w n) f e = fork (w, n) f e
plain_none t entry exit param select fork mux cmerge branch sink read const op1 op2 (Mux w n) f e = mux (w, n) f e
plain_none t entry exit param select fork mux cmerge branch sink read const op1 op2 (Cmerge n) f e = cmerge n f e
plain_none t entry exit param select fork mux cmerge branch sink read const op1 op2 (Branch n) f e = branch n f e
plain_none t entry exit param select fork mux cmerge branch sink read const op1 op2 (Sink n) f e = sink n f e
plain_none t entry exit param select fork mux cmerge branch sink read const op1 op2 (Read n) f e = read n f e
plain_none t entry exit param select fork mux cmerge branch sink read const op1 op2 (Const w v) f e = const (w, v) f e
plain_none t entry exit param select fork mux cmerge branch sink read const op1 op2 (Op1 op) f e = op1 op tt e
plain_none t entry exit param select fork mux cmerge branch sink read const op1 op2 (Op2 op) f e = op2 op tt e
plain_none t entry exit param select fork mux cmerge branch sink read const op1 op2 (Lsq a d ps gs m) f e = f

plain_fits : (u : Kind) → PlainFits u → UnitFits u
plain_fits (Lsq a d ps gs m) f = absurd f
plain_fits u f = f

-- each version writes a unit that is no queue, and in the same way
plain_written : (ver : Version) (u : Kind) → PlainFits u → IsWritten ver u
plain_written ver (Lsq a d ps gs m) f = absurd f
plain_written ver u f = tt

plain_same : (ver : Version) (u : Kind) → PlainFits u → kind_text ver u ≡ kind_text Two u
plain_same ver (Lsq a d ps gs m) f = absurd f
plain_same ver u f = refl

plain_or_queue : (ver : Version) (text : List ℕ) → ((rest : List ℕ) → text ≢ codes "lsq " ++ rest) → ((u : Kind) → PlainFits u → kind_text Two u ≡ text → ⊥)
    → (u : Kind) → WritesUnit ver u → kind_text ver u ≡ text → ⊥
plain_or_queue ver text other none (Lsq a d ps gs m) f e = other (drop 4 (kind_text ver (Lsq a d ps gs m))) (sym e)
plain_or_queue ver text other none u f e = none u f.0 e

-- a text that begins as no queue's does is read as a plain unit's
pub reads_plain : (ver : Version) (text : List ℕ) (o : Option Kind) → ((rest : List ℕ) → text ≢ codes "lsq " ++ rest) → Reads PlainFits (kind_text Two) text o → Reads (WritesUnit ver) (kind_text ver) text o
reads_plain ver text None other r = plain_or_queue ver text other r
reads_plain ver text (Some u) other r = ((plain_fits u r.0, plain_written ver u r.0), plain_same ver u r.0 ∙ r.1)

pub reads_unit : (ver : Version) (line kind : List ℕ) (o : Option Kind) → line ≡ codes "unit " ++ kind → Reads (WritesUnit ver) (kind_text ver) kind o → Reads (WritesUnit ver) (unit_text ver) line o
reads_unit ver line kind None e r = λ u fits is. r u fits (after_word (codes "unit ") (kind_text ver u) kind (sym (unit_kind ver u) ∙ is ∙ e))
reads_unit ver line kind (Some u) e r = (r.0, unit_kind ver u ∙ ap (λ l. codes "unit " ++ l) r.1 ∙ sym e)

-- a queue's numbers and lists, with a space between two
abbrev pub queue_text : Version → ℕ → ℕ → List Port → List (List ℕ) → Bool → List ℕ
queue_text ver a d ps gs m = decimal a ++ 32 ∷ (decimal d ++ 32 ∷ (ports_text ps ++ 32 ∷ queue_end ver (gs, m)))

pub no_queue : (ver : Version) (args : List ℕ) → ((a d : ℕ) (ps : List Port) (gs : List (List ℕ)) (m : Bool) → QueueFits a d gs × MarkFits ver m → queue_text ver a d ps gs m ≡ args → ⊥)
    → (u : Kind) → WritesUnit ver u → kind_text ver u ≡ codes "lsq " ++ args → ⊥
no_queue ver args none u f e =
    let Q : Kind → Type 0 = λ u. WritesUnit ver u → kind_text ver u ≡ codes "lsq " ++ args → ⊥ in
    queue_only ver Q args (λ a d ps gs m f e. none a d ps gs m f (after_word (codes "lsq ") (queue_text ver a d ps gs m) args e)) u e f e

-- a queue's text is cut at its spaces
pub number_cut : (n : ℕ) (more args x r : List ℕ) → IsNumbered n → decimal n ++ 32 ∷ more ≡ args → (args ≡ x ++ 32 ∷ r) × (lacks 32 x ≡ true) → (decimal n ≡ x) × (more ≡ r)
number_cut n more args x r f e s = cut_unique 32 (decimal n) more x r (decimal_lacks 32 n (lit< tt) (omega (arith, f))) s.1 (e ∙ s.0)

pub ports_cut : (ps : List Port) (more args x r : List ℕ) → ports_text ps ++ 32 ∷ more ≡ args → (args ≡ x ++ 32 ∷ r) × (lacks 32 x ≡ true) → (ports_text ps ≡ x) × (more ≡ r)
ports_cut ps more args x r e s = cut_unique 32 (ports_text ps) more x r (ports_lack ps) s.1 (e ∙ s.0)

pub groups_cut : (gs : List (List ℕ)) (more args x r : List ℕ) → GroupsFit gs → groups_text gs ++ 32 ∷ more ≡ args → (args ≡ x ++ 32 ∷ r) × (lacks 32 x ≡ true) → (groups_text gs ≡ x) × (more ≡ r)
groups_cut gs more args x r f e s = cut_unique 32 (groups_text gs) more x r (groups_lack 32 (lit< tt) gs f) s.1 (e ∙ s.0)
