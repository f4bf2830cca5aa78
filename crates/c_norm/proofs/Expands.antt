-- Expansions of expressions, over meanings and runs: what is set first, and what is left, which keeps its value while the variables that were set stay.
use Rattle.std.proofs.Common.{◌≡◌, ℕ, ◌+◌, ◌*◌, ◌<◌, ◌≤◌, List, [], ◌∷◌, ◌++◌, length, Option, Some, ◌∙◌, ap, arith}
use Rattle.std.specs.Prelude.{Bool, true, false, ℤ}
use Rattle.el_base.specs.declared.span.Span.{Span}
use Rattle.el_base.specs.declared.ty.Ty.{Ty}
use Rattle.c_meaning.specs.Types.{conv}
use Rattle.c_meaning.specs.Operators.{is_zero}
use Rattle.c_meaning.specs.Stores.{Store, Objects, set_var, read_var}
use Rattle.c_meaning.specs.Expressions.{value, Meaning, after_turns, on_one, on_two, chosen, one_of, later}
use Rattle.c_meaning.specs.Runs.{normally}
use Rattle.c_meaning.specs.Counts.{Counted, run_of}
use Rattle.c_meaning.proofs.ValueParts.{operand, operands, choosing, sides_same}
use Rattle.c_meaning.proofs.StoreParts.{Below, below_same, below_then}
use Rattle.c_norm.proofs.Takes.{Takes, TakesAll, takes_none, takes_one, takes_append}
use Rattle.c_norm.proofs.Stores.{Matches, set_below, read_set, matches_below}

-- a meaning has a value, in whatever turns
pub record Has (m : Meaning) (s : Store) (x : ℤ) : Type 0 where
  pub turns : ℕ
  pub is : m s ≡ value x turns

-- What is set from a store changes no variable below f, and what is left has the value wherever the variables below g stay. For u turns of the expression there are at most 2 * u jumps.
pub record Done (f g : ℕ) (parts : List Counted) (left : Meaning) (t : Store) (x : ℤ) (u most : ℕ) : Type 0 where
  pub last : Store
  pub turns : ℕ
  pub jumps : ℕ
  pub price : ℕ
  pub takes : TakesAll parts t normally last turns jumps price
  pub kept : Below f t last
  pub stays : (r : Store) → Below g last r → Has left r x
  pub few : jumps ≤ 2 * u
  pub cheap : price ≤ most

-- a variable v is set to a value
pub record Filled (f v : ℕ) (parts : List Counted) (t : Store) (x : ℤ) (u most : ℕ) : Type 0 where
  pub last : Store
  pub turns : ℕ
  pub jumps : ℕ
  pub price : ℕ
  pub takes : TakesAll parts t normally last turns jumps price
  pub kept : Below f t last
  pub filled : (r : Store) → Below (v + 1) last r → read_var r v ≡ Some x
  pub few : jumps ≤ 2 * u
  pub cheap : price ≤ most

-- the meaning of a variable at a place
abbrev pub var_of : Span → ℕ → Meaning
var_of at v s = after_turns at 0 (read_var s v)

-- a statement that sets a variable of a type to what an expression means, of a price
abbrev pub Sets : ℕ → Ty → Meaning → ℕ → Counted → Type 0
Sets v t left p a = (s : Store) (x : ℤ) (u : ℕ) → left s ≡ value x u → Takes (run_of a) a.counts s normally (set_var v (conv t x) s) (1 + u) 0 p

abbrev pub pick : Bool → List Counted → List Counted → List Counted
pick true a b = a
pick false a b = b

-- a statement that evaluates a condition, and then one of two lists of statements
abbrev pub Chooses : Meaning → ℕ → List Counted → List Counted → Counted → Type 0
Chooses cond p yes_parts no_parts a = (s t : Store) (w : ℤ) (u m j q : ℕ) → cond s ≡ value w u → TakesAll (pick (is_zero w) no_parts yes_parts) s normally t m j q → Takes (run_of a) a.counts s normally t (1 + (0 + (1 + (u + (1 + m))))) (0 + (2 + j)) (0 + (p + 2 + q))

module _ (k : Objects) (all : ℕ) where
  -- An expression of the kernel by what is set first and what is left of it. Only variables from f to g are set.
  pub record Expands (f g : ℕ) (m : Meaning) (parts : List Counted) (left : Meaning) (most : ℕ) : Type 0 where
    pub own : length k.vars ≤ f
    pub more : f ≤ g
    pub does : (s t : Store) (x : ℤ) (u : ℕ) → Matches k all s t → m s ≡ value x u → Done f g parts left t x u most

  -- statements that set v to what an expression of the kernel means
  pub record Fills (f v : ℕ) (m : Meaning) (parts : List Counted) (most : ℕ) : Type 0 where
    pub own : length k.vars ≤ f
    pub more : f ≤ v
    pub does : (s t : Store) (x : ℤ) (u : ℕ) → Matches k all s t → m s ≡ value x u → Filled f v parts t x u most

  -- what means the same in each store of the normal form that matches one of the kernel
  abbrev pub Same : Meaning → Meaning → Type 0
  Same m left = (s r : Store) → Matches k all s r → left r ≡ m s

  pub whole_expands : (f : ℕ) (m left : Meaning) → length k.vars ≤ f → Same m left → Expands f f m [] left 0
  whole_expands f m left own same = record {
    own = own;
    more = omega arith;
    does = λ s t x u h e. record {
      last = t;
      turns = 0;
      jumps = 0;
      price = 0;
      takes = takes_none t;
      kept = below_same f t;
      stays = λ r b. record { turns = u; is = same s r (matches_below k all f s t r own h b) ∙ e };
      few = omega arith;
      cheap = omega arith;
    };
  }

  -- one operand
  pub one_expands : (at : Span) (op : ℤ → Option ℤ) (f g p : ℕ) (a a2 : Meaning) (parts : List Counted) → Expands f g a parts a2 p → Expands f g (λ s. on_one at op (a s)) parts (λ s. on_one at op (a2 s)) p
  one_expands at op f g p a a2 parts ea = record {
    own = ea.own;
    more = ea.more;
    does = λ s t x u h e.
        let o = operand at op (a s) x u e in
        let d = ea.does s t o.x u h o.is in
        record {
          last = d.last;
          turns = d.turns;
          jumps = d.jumps;
          price = d.price;
          takes = d.takes;
          kept = d.kept;
          stays = λ r b. let y = d.stays r b in record { turns = y.turns; is = ap (λ z. on_one at op z) y.is ∙ ap (after_turns at y.turns) o.gives };
          few = d.few;
          cheap = d.cheap;
        };
  }

  -- two operands, the settings of the left one first
  pub two_expand : (at : Span) (op : ℤ → ℤ → Option ℤ) (f g h p q : ℕ) (a b a2 b2 : Meaning) (xs ys : List Counted) → Expands f g a xs a2 p → Expands g h b ys b2 q → Expands f h (λ s. on_two at op (a s) (b s)) (xs ++ ys) (λ s. on_two at op (a2 s) (b2 s)) (p + q)
  two_expand at op f g h p q a b a2 b2 xs ys ea eb = record {
    own = ea.own;
    more = omega (arith, ea.more, eb.more);
    does = λ s t x u same is.
        let o = operands at op (a s) (b s) x u is in
        let da = ea.does s t o.x o.t same o.left in
        let db = eb.does s da.last o.y o.r (matches_below k all f s t da.last ea.own same da.kept) o.right in
        record {
          last = db.last;
          turns = da.turns + db.turns;
          jumps = da.jumps + db.jumps;
          price = da.price + db.price;
          takes = takes_append xs ys t da.last db.last normally da.turns db.turns da.jumps db.jumps da.price db.price da.takes db.takes;
          kept = below_then f f g t da.last db.last (omega arith) ea.more da.kept db.kept;
          stays = λ r w.
              let va = da.stays r (below_then g g h da.last db.last r (omega arith) eb.more db.kept w) in
              let vb = db.stays r w in
              record { turns = va.turns + vb.turns; is = ap (λ z. on_two at op z (b2 r)) va.is ∙ ap (λ z. on_two at op (value o.x va.turns) z) vb.is ∙ ap (after_turns at (va.turns + vb.turns)) o.both };
          few = omega (arith, da.few, db.few, o.all);
          cheap = omega (arith, da.cheap, db.cheap);
        };
  }

  -- a choice whose sides stay whole
  pub choose_expands : (f g p : ℕ) (c c2 a a2 b b2 : Meaning) (parts : List Counted) → Expands f g c parts c2 p → Same a a2 → Same b b2 → Expands f g (λ s. chosen (c s) a b s) parts (λ s. chosen (c2 s) a2 b2 s) p
  choose_expands f g p c c2 a a2 b b2 parts ec sa sb = record {
    own = ec.own;
    more = ec.more;
    does = λ s t x u h e.
        let o = choosing (c s) a b s x u e in
        let d = ec.does s t o.w o.t h o.cond in
        record {
          last = d.last;
          turns = d.turns;
          jumps = d.jumps;
          price = d.price;
          takes = d.takes;
          kept = d.kept;
          stays = λ r w.
              let y = d.stays r w in
              let near = matches_below k all g s d.last r (omega (arith, ec.own, ec.more)) (matches_below k all f s t d.last ec.own h d.kept) w in
              record { turns = y.turns + 1 + o.r; is = ap (λ z. chosen z a2 b2 r) y.is ∙ ap (later (y.turns + 1)) (sides_same (is_zero o.w) a b a2 b2 s r (sa s r near) (sb s r near) ∙ o.side) };
          few = omega (arith, d.few, o.all);
          cheap = d.cheap;
        };
  }

  -- ---- variables that are set

  pub set_fills : (t : Ty) (f g v p q : ℕ) (m left : Meaning) (parts : List Counted) (a : Counted) → Expands f g m parts left p → g ≤ v → v < all → Sets v t left q a → ((s r : Store) (x : ℤ) (u : ℕ) → Matches k all s r → m s ≡ value x u → conv t x ≡ x)
      → Fills f v m (parts ++ a ∷ []) (p + q)
  set_fills t f g v p q m left parts a ea le lt sets same = record {
    own = ea.own;
    more = omega (arith, ea.more);
    does = λ s r x u h e.
        let d = ea.does s r x u h e in
        let y = d.stays d.last (below_same g d.last) in
        let set_it = takes_one a d.last (set_var v (conv t x) d.last) normally (1 + y.turns) 0 q (sets d.last x y.turns y.is) in
        let is = same s r x u h e in
        record {
          last = set_var v (conv t x) d.last;
          turns = d.turns + (1 + y.turns);
          jumps = d.jumps + 0;
          price = d.price + q;
          takes = takes_append parts (a ∷ []) r d.last (set_var v (conv t x) d.last) normally d.turns (1 + y.turns) d.jumps 0 d.price q d.takes set_it;
          kept = below_then f f f r d.last (set_var v (conv t x) d.last) (omega arith) (omega arith) d.kept (set_below f v (conv t x) d.last (omega (arith, ea.more)));
          filled = λ w b. read_set v (conv t x) d.last w (v + 1) (omega (arith, d.kept.count, h.long)) (omega arith) b ∙ ap Some is;
          few = omega (arith, d.few);
          cheap = omega (arith, d.cheap);
        };
  }

  -- a side of a choice with its own settings
  side_filled : (z : Bool) (f g v p q : ℕ) (a b : Meaning) (yes_parts no_parts : List Counted) → f ≤ g → Fills f v a yes_parts p → Fills g v b no_parts q → (s t : Store) (x : ℤ) (u : ℕ) → Matches k all s t → one_of z b a s ≡ value x u → Filled f v (pick z no_parts yes_parts) t x u (p + q)
  side_filled true f g v p q a b yes_parts no_parts le fa fb s t x u h e =
      let d = fb.does s t x u h e in
      record { last = d.last; turns = d.turns; jumps = d.jumps; price = d.price; takes = d.takes; kept = below_then f g g t d.last d.last le le d.kept (below_same g d.last); filled = d.filled; few = d.few; cheap = omega (arith, d.cheap) }
  side_filled false f g v p q a b yes_parts no_parts le fa fb s t x u h e =
      let d = fa.does s t x u h e in
      record { last = d.last; turns = d.turns; jumps = d.jumps; price = d.price; takes = d.takes; kept = d.kept; filled = d.filled; few = d.few; cheap = omega (arith, d.cheap) }

  -- a choice that sets a variable: its settings are those of the condition, and those of a side stand in that side
  pub choice_expands : (at : Span) (f g h v p pc q r : ℕ) (c c2 a b : Meaning) (parts yes_parts no_parts : List Counted) (x : Counted) → Expands f g c parts c2 p → Fills g v a yes_parts q → Fills h v b no_parts r → g ≤ h → Chooses c2 pc yes_parts no_parts x
      → Expands f (v + 1) (λ s. chosen (c s) a b s) (parts ++ x ∷ []) (var_of at v) (p + (pc + 2 + (q + r)))
  choice_expands at f g h v p pc q r c c2 a b parts yes_parts no_parts x ec fa fb le ch = record {
    own = ec.own;
    more = omega (arith, ec.more, fa.more);
    does = λ s t z u same e.
        let o = choosing (c s) a b s z u e in
        let d = ec.does s t o.w o.t same o.cond in
        let y = d.stays d.last (below_same g d.last) in
        let near = matches_below k all f s t d.last ec.own same d.kept in
        let i = side_filled (is_zero o.w) g h v q r a b yes_parts no_parts le fa fb s d.last z o.r near o.side in
        let run = takes_one x d.last i.last normally (1 + (0 + (1 + (y.turns + (1 + i.turns))))) (0 + (2 + i.jumps)) (0 + (pc + 2 + i.price)) (ch d.last i.last o.w y.turns i.turns i.jumps i.price y.is i.takes) in
        record {
          last = i.last;
          turns = d.turns + (1 + (0 + (1 + (y.turns + (1 + i.turns)))));
          jumps = d.jumps + (0 + (2 + i.jumps));
          price = d.price + (0 + (pc + 2 + i.price));
          takes = takes_append parts (x ∷ []) t d.last i.last normally d.turns (1 + (0 + (1 + (y.turns + (1 + i.turns))))) d.jumps (0 + (2 + i.jumps)) d.price (0 + (pc + 2 + i.price)) d.takes run;
          kept = below_then f f g t d.last i.last (omega arith) ec.more d.kept i.kept;
          stays = λ w near. record { turns = 0; is = ap (after_turns at 0) (i.filled w near) };
          few = omega (arith, d.few, i.few, o.all);
          cheap = omega (arith, d.cheap, i.cheap);
        };
  }
