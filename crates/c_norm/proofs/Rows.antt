-- Expansions of several expressions, from left to right.
use Rattle.std.proofs.Common.{◌≡◌, ℕ, ◌+◌, ◌*◌, ◌<◌, ◌≤◌, List, [], ◌∷◌, ◌++◌, length, sym, ◌∙◌, ap, subst, arith, append_assoc}
use Rattle.std.specs.Prelude.{ℤ}
use Rattle.el_base.specs.declared.span.Span.{Span}
use Rattle.el_base.specs.declared.ty.Ty.{Ty}
use Rattle.c_meaning.specs.Types.{conv}
use Rattle.c_meaning.specs.Stores.{Store, Objects, place}
use Rattle.c_meaning.specs.Expressions.{value, values, Meaning, after_turns, with_first, all_values, element, element_at}
use Rattle.c_meaning.specs.Runs.{normally}
use Rattle.c_meaning.specs.Counts.{Counted}
use Rattle.c_meaning.proofs.ValueParts.{values_one, firsts, indexed, element_of_arrays}
use Rattle.c_meaning.proofs.StoreParts.{Below, below_same, below_then}
use Rattle.c_norm.proofs.Takes.{TakesAll, takes_none, takes_append}
use Rattle.c_norm.proofs.Stores.{Matches, matches_below}
use Rattle.c_norm.proofs.Expands.{Sets, var_of, Expands, set_fills}

-- expressions have values, in whatever turns
pub record HasAll (ms : List Meaning) (s : Store) (xs : List ℤ) : Type 0 where
  pub turns : ℕ
  pub is : all_values ms s ≡ values xs turns

pub record DoneAll (f g : ℕ) (parts : List Counted) (lefts : List Meaning) (t : Store) (xs : List ℤ) (u most : ℕ) : Type 0 where
  pub last : Store
  pub turns : ℕ
  pub jumps : ℕ
  pub price : ℕ
  pub takes : TakesAll parts t normally last turns jumps price
  pub kept : Below f t last
  pub stays : (r : Store) → Below g last r → HasAll lefts r xs
  pub few : jumps ≤ 2 * u
  pub cheap : price ≤ most

module _ (k : Objects) (all : ℕ) where
  pub record ExpandsAll (f g : ℕ) (ms : List Meaning) (parts : List Counted) (lefts : List Meaning) (most : ℕ) : Type 0 where
    pub own : length k.vars ≤ f
    pub more : f ≤ g
    pub does : (s t : Store) (xs : List ℤ) (u : ℕ) → Matches k all s t → all_values ms s ≡ values xs u → DoneAll f g parts lefts t xs u most

  pub none_expand : (f : ℕ) → length k.vars ≤ f → ExpandsAll f f [] [] [] 0
  none_expand f own = record {
    own = own;
    more = omega arith;
    does = λ s t xs u h e. record {
      last = t;
      turns = 0;
      jumps = 0;
      price = 0;
      takes = takes_none t;
      kept = below_same f t;
      stays = λ r b. record { turns = 0; is = ap (λ l. values l 0) (values_one [] xs 0 u e) };
      few = omega arith;
      cheap = omega arith;
    };
  }

  pub more_expand : (f g h p q : ℕ) (m left : Meaning) (ms lefts : List Meaning) (xs ys : List Counted) → Expands k all f g m xs left p → ExpandsAll g h ms ys lefts q → ExpandsAll f h (m ∷ ms) (xs ++ ys) (left ∷ lefts) (p + q)
  more_expand f g h p q m left ms lefts xs ys ea eb = record {
    own = ea.own;
    more = omega (arith, ea.more, eb.more);
    does = λ s t zs u same is.
        let o = firsts (m s) (all_values ms s) zs u is in
        let da = ea.does s t o.x o.t same o.first in
        let db = eb.does s da.last o.xs o.r (matches_below k all f s t da.last ea.own same da.kept) o.rest in
        record {
          last = db.last;
          turns = da.turns + db.turns;
          jumps = da.jumps + db.jumps;
          price = da.price + db.price;
          takes = takes_append xs ys t da.last db.last normally da.turns db.turns da.jumps db.jumps da.price db.price da.takes db.takes;
          kept = below_then f f g t da.last db.last (omega arith) ea.more da.kept db.kept;
          stays = λ r w.
              let va = da.stays r (below_then g g h da.last db.last r (omega arith) eb.more db.kept w) in
              let vb = db.stays r w in
              record { turns = va.turns + vb.turns; is = ap (λ z. with_first z (all_values lefts r)) va.is ∙ ap (λ z. with_first (value o.x va.turns) z) vb.is ∙ ap (λ l. values l (va.turns + vb.turns)) (sym o.is) };
          few = omega (arith, da.few, db.few, o.all);
          cheap = omega (arith, da.cheap, db.cheap);
        };
  }

  -- an expression whose value is set to a variable
  pub set_expands : (at : Span) (t : Ty) (f g v p q : ℕ) (m left : Meaning) (parts : List Counted) (a : Counted) → Expands k all f g m parts left p → g ≤ v → v < all → Sets v t left q a → ((s r : Store) (x : ℤ) (u : ℕ) → Matches k all s r → m s ≡ value x u → conv t x ≡ x)
      → Expands k all f (v + 1) m (parts ++ a ∷ []) (var_of at v) (p + q)
  set_expands at t f g v p q m left parts a ea le lt sets same =
      let fill = set_fills k all t f g v p q m left parts a ea le lt sets same in
      record {
        own = ea.own;
        more = omega (arith, fill.more);
        does = λ s r x u h e.
            let d = fill.does s r x u h e in
            record { last = d.last; turns = d.turns; jumps = d.jumps; price = d.price; takes = d.takes; kept = d.kept; stays = λ w b. record { turns = 0; is = ap (after_turns at 0) (d.filled w b) }; few = d.few; cheap = d.cheap };
      }

  pub set_more : (at : Span) (t : Ty) (f g v h p q r : ℕ) (m left : Meaning) (ms lefts : List Meaning) (xs ys : List Counted) (a : Counted) → Expands k all f g m xs left p → g ≤ v → v < all → Sets v t left q a → ((s r : Store) (x : ℤ) (u : ℕ) → Matches k all s r → m s ≡ value x u → conv t x ≡ x)
      → ExpandsAll (v + 1) h ms ys lefts r → ExpandsAll f h (m ∷ ms) (xs ++ a ∷ ys) (var_of at v ∷ lefts) (p + q + r)
  set_more at t f g v h p q r m left ms lefts xs ys a ea le lt sets same eb =
      subst (λ l. ExpandsAll f h (m ∷ ms) l (var_of at v ∷ lefts) (p + q + r)) (append_assoc xs (a ∷ []) ys) (more_expand f (v + 1) h (p + q) r m (var_of at v) ms lefts (xs ++ a ∷ []) ys (set_expands at t f g v p q m left xs a ea le lt sets same) eb)

  -- an element; the arrays are the same in k2
  pub element_expands : (k2 : Objects) (at : Span) (a f g p : ℕ) (ms lefts : List Meaning) (parts : List Counted) → k2.arrays ≡ k.arrays → ExpandsAll f g ms parts lefts p → Expands k all f g (λ s. element k at s a (all_values ms s)) parts (λ s. element k2 at s a (all_values lefts s)) p
  element_expands k2 at a f g p ms lefts parts arrays ea = record {
    own = ea.own;
    more = ea.more;
    does = λ s t x u h e.
        let o = indexed k at s a (all_values ms s) x u e in
        let d = ea.does s t o.given u h o.all in
        record {
          last = d.last;
          turns = d.turns;
          jumps = d.jumps;
          price = d.price;
          takes = d.takes;
          kept = d.kept;
          stays = λ r b.
              let y = d.stays r b in
              let near = matches_below k all g s d.last r (omega (arith, ea.own, ea.more)) (matches_below k all f s t d.last ea.own h d.kept) b in
              record { turns = y.turns; is = ap (λ z. element k2 at r a z) y.is ∙ ap (λ l. after_turns at y.turns (element_at r a (place l a o.given))) arrays ∙ ap (after_turns at y.turns) (sym (element_of_arrays a (place k.arrays a o.given) s r near.arrays) ∙ o.is) };
          few = d.few;
          cheap = d.cheap;
        };
  }
