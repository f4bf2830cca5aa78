-- What is known of arrays stands there in each visit without strays.
use Rattle.std.proofs.Common.{◌≡◌, ◌≢◌, ℕ, ◌+◌, ◌<◌, List, [], ◌∷◌, ◌++◌, map, length, get_or, Some, refl, sym, ◌∙◌, ap, subst, arith, inl, inr}
use Rattle.std.specs.Prelude.{slice_get, set, nat_lt, ◌==◌, ◌&&◌, not, Bool, true, false, if◌then◌else◌, All}
use Rattle.std.specs.List.{filter}
use Rattle.std.proofs.lemmas.Bool.{cases_eq, lt-ltb, ltb-true, and_parts, or_cases, eqb-true, eqb-false, not-true}
use Rattle.std.proofs.lemmas.Option.{slice_get_within}
use Rattle.std.proofs.lemmas.List.{get_or-set_same, get_or-set_other, length-set}
use Rattle.std.proofs.lemmas.List.Elements.{All-nil, All-cons, All-head, All-tail, All-weaker}
use Rattle.ir.specs.declared.instr.Instr.{Instr}
use Rattle.ir.specs.declared.instr.Instr.TheVariants.{Load, Store}
use Rattle.ir.specs.Steps.{Work, value_at, cells, strays_past, step_arrays, step_strays, beginning}
use Rattle.ir.specs.Shapes.{IsOfWidth, IsArray, StepFits, element_width}
use Rattle.block_pass.specs.Laws.{ValuesStayInWidths}
use Rattle.block_fold.specs.declared.known.Known.{Known}
use Rattle.block_fold.specs.Addresses.{known_value, differ, stays_known}
use Rattle.block_fold.proofs.StepLemmas.{fit_arrays_long}
use Rattle.block_fold.proofs.Growing.{Start, count, shape, work, values, Fit, known_values, work_more, width_more, value_more, Grows, grows_more}
use Rattle.block_fold.proofs.Sums.{differ_apart}

-- ---- one entry

pub record Holds (w : Work) (k : Known) : Type 0 where
  pub within : value_at w.values k.addr < length (cells w.arrays k.array)
  pub element : get_or (cells w.arrays k.array) (value_at w.values k.addr) 0 ≡ value_at w.values k.value

pub record Stands (s : Start) (steps : List Instr) (k : Known) : Type 0 where
  pub width : ℕ
  pub array : IsArray s.declared k.array width
  pub addr : IsOfWidth (shape s steps) k.addr 64
  pub value : IsOfWidth (shape s steps) k.value width
  pub holds : (work s steps).strays ≡ 0 → Holds (work s steps) k

pub record IsFound (P : Known → Type 0) (a p v : ℕ) : Type 0 where
  pub entry : Known
  pub array : entry.array ≡ a
  pub addr : entry.addr ≡ p
  pub value : entry.value ≡ v
  pub is : P entry

pub known_found : (P : Known → Type 0) (ks : List Known) (a p v : ℕ) → All P ks → known_value ks a p ≡ Some v → IsFound P a p v
known_found P [] a p v h e = absurd (cc)
known_found P (k ∷ ks) a p v h e = by (known_found P ks a p v (All-tail P k ks h)) ((k.array == a) && (k.addr == p)) refl e
  where
    by : (known_value ks a p ≡ Some v → IsFound P a p v) → (t : Bool) → ((k.array == a) && (k.addr == p)) ≡ t → (if t then Some k.value else known_value ks a p) ≡ Some v → IsFound P a p v
    by rest true c e =
        let both = and_parts (k.array == a) (k.addr == p) c in
        let same : k.value ≡ v = cc in
        record { entry = k; array = eqb-true k.array a both.0; addr = eqb-true k.addr p both.1; value = same; is = All-head P k ks h }
    by rest false c e = rest e

-- ---- strays

pub past_none : (cs : List ℕ) (p : ℕ) → strays_past cs p ≡ 0 → p < length cs
past_none cs p h = by (nat_lt p (length cs)) refl h
  where
    by : (t : Bool) → nat_lt p (length cs) ≡ t → ◌≡◌ {A = ℕ} (if t then 0 else 1) 0 → p < length cs
    by true e h = ltb-true p (length cs) e
    by false e h = absurd (omega arith)

pub within_none : (cs : List ℕ) (p : ℕ) → p < length cs → strays_past cs p ≡ 0
within_none cs p h = ap (λ (t : Bool). if t then 0 else 1) (lt-ltb p (length cs) h)

-- ---- further steps

-- the cell at a place stays as it is
pub record KeepsCell (xs ys : List ℕ) (at : ℕ) : Type 0 where
  pub long : length ys ≡ length xs
  pub same : get_or ys at 0 ≡ get_or xs at 0

pub same_cells : (xs ys : List ℕ) (at : ℕ) → ys ≡ xs → KeepsCell xs ys at
same_cells xs ys at e = record { long = ap length e; same = ap (λ l. get_or l at 0) e }

pub stands_on : (s : Start) (old new : List Instr) (k : Known) → Stands s old k → Grows s old new → ((work s new).strays ≡ 0 → (work s old).strays ≡ 0)
    → ((work s new).strays ≡ 0 → KeepsCell (cells (work s old).arrays k.array) (cells (work s new).arrays k.array) (value_at (values s old) k.addr)) → Stands s new k
stands_on s old new k st g clean keeps = record {
  width = st.width;
  array = st.array;
  addr = g.widths k.addr 64 st.addr;
  value = g.widths k.value st.width st.value;
  holds = λ z.
      let h = st.holds (clean z) in
      let c = keeps z in
      let a : value_at (values s new) k.addr ≡ value_at (values s old) k.addr = g.values k.addr 64 st.addr in
      let v : value_at (values s new) k.value ≡ value_at (values s old) k.value = g.values k.value st.width st.value in
      let within = h.within in
      let long = c.long in
      record {
        within = omega (arith, a, within, long);
        element = ap (λ n. get_or (cells (work s new).arrays k.array) n 0) a ∙ c.same ∙ h.element ∙ sym v;
      };
}

-- ---- an access more

-- without strays behind the step there were none before it, and it makes none
pub clean_before : (s : Start) (steps : List Instr) (i : Instr) → (work s (steps ++ i ∷ [])).strays ≡ 0
    → ((work s steps).strays ≡ 0) × (step_strays i (values s steps) (work s steps).arrays ≡ 0)
clean_before s steps i h =
    let e : (work s (steps ++ i ∷ [])).strays ≡ (work s steps).strays + step_strays i (values s steps) (work s steps).arrays = ap (λ (w : Work). w.strays) (work_more s steps i) in
    (omega (arith, h, e), omega (arith, h, e))

arrays_more : (s : Start) (steps : List Instr) (i : Instr) → (work s (steps ++ i ∷ [])).arrays ≡ step_arrays i (values s steps) (work s steps).arrays
arrays_more s steps i = ap (λ (w : Work). w.arrays) (work_more s steps i)

module _ (s : Start) (steps : List Instr) (a p : ℕ) (fits : StepFits s.declared (shape s steps) (Load a p)) where
  pub all_loaded : (ks : List Known) → All (Stands s steps) ks → All (Stands s (steps ++ Load a p ∷ [])) ks
  all_loaded ks h = All-weaker (Stands s steps) (Stands s (steps ++ Load a p ∷ [])) (λ k st. stands_on s steps (steps ++ Load a p ∷ []) k st (grows_more s steps (Load a p)) (λ z. (clean_before s steps (Load a p) z).0) (λ z. same_cells (cells (work s steps).arrays k.array) (cells (work s (steps ++ Load a p ∷ [])).arrays k.array) (value_at (values s steps) k.addr) (ap (λ l. cells l k.array) (arrays_more s steps (Load a p))))) ks h

  pub stands_loaded : Stands s (steps ++ Load a p ∷ []) (record { array = a; addr = p; value = count s + length steps })
  stands_loaded =
      let g = grows_more s steps (Load a p) in
      let new = steps ++ Load a p ∷ [] in
      let x = fits.1.0 in
      let elements : element_width (slice_get s.declared a) ≡ Some fits.0 = ap element_width fits.1.1 ∙ ap Some fits.1.2 in
      record {
        width = fits.0;
        array = fits.1;
        addr = g.widths p 64 fits.2;
        value = width_more s steps (Load a p) ∙ ap Some elements;
        holds = λ z.
            let none = (clean_before s steps (Load a p) z).1 in
            let lt = past_none (cells (work s steps).arrays a) (value_at (values s steps) p) none in
            let same : value_at (values s new) p ≡ value_at (values s steps) p = g.values p 64 fits.2 in
            let arrays : cells (work s new).arrays a ≡ cells (work s steps).arrays a = ap (λ l. cells l a) (arrays_more s steps (Load a p)) in
            let long = ap length arrays in
            record {
              within = omega (arith, lt, same, long);
              element =
                  ap (λ l. get_or l (value_at (values s new) p) 0) arrays ∙ ap (λ n. get_or (cells (work s steps).arrays a) n 0) same ∙ sym (value_more s steps (Load a p));
            };
      }

-- the arrays behind a store
cells_there : (arrays : List (List ℕ)) (a : ℕ) (cs : List ℕ) → a < length arrays → cells (set arrays a cs) a ≡ cs
cells_there arrays a cs lt = get_or-set_same arrays a cs [] lt

cells_elsewhere : (arrays : List (List ℕ)) (a b : ℕ) (cs : List ℕ) → b ≢ a → cells (set arrays a cs) b ≡ cells arrays b
cells_elsewhere arrays a b cs ne = get_or-set_other arrays a b cs [] ne

module _ (stay : ValuesStayInWidths) (s : Start) (steps : List Instr) (a p v : ℕ) (fit : Fit s steps) (fits : StepFits s.declared (shape s steps) (Store a p v)) where
  array_there : a < length (work s steps).arrays
  array_there =
      let all = (stay s.declared (map Some s.args) steps (beginning s.given s.arrays) fit (record { values = s.fit_given; elements = s.fit_arrays })).elements in
      let long = fit_arrays_long s.declared (work s steps).arrays all in
      let lt = slice_get_within s.declared a fits.1.0 fits.1.1 in
      omega (arith, long, lt)

  abbrev stored : List ℕ
  stored = set (cells (work s steps).arrays a) (value_at (values s steps) p) (value_at (values s steps) v)

  cells_stored : cells (work s (steps ++ Store a p v ∷ [])).arrays a ≡ stored
  cells_stored = ap (λ l. cells l a) (arrays_more s steps (Store a p v)) ∙ cells_there (work s steps).arrays a stored array_there

  stands_elsewhere : (k : Known) → Stands s steps k → k.array ≢ a → Stands s (steps ++ Store a p v ∷ []) k
  stands_elsewhere k st ne = stands_on s steps (steps ++ Store a p v ∷ []) k st (grows_more s steps (Store a p v)) (λ z. (clean_before s steps (Store a p v) z).0)
      (λ z. same_cells (cells (work s steps).arrays k.array) (cells (work s (steps ++ Store a p v ∷ [])).arrays k.array) (value_at (values s steps) k.addr)
      (ap (λ l. cells l k.array) (arrays_more s steps (Store a p v)) ∙ cells_elsewhere (work s steps).arrays a k.array stored ne))

  stands_apart : (k : Known) → Stands s steps k → k.array ≡ a → differ (count s) steps k.addr p ≡ true → Stands s (steps ++ Store a p v ∷ []) k
  stands_apart k st same d = stands_on s steps (steps ++ Store a p v ∷ []) k st (grows_more s steps (Store a p v)) (λ z. (clean_before s steps (Store a p v) z).0) (λ z.
      let ne : value_at (values s steps) k.addr ≢ value_at (values s steps) p =
      differ_apart s.declared (count s) steps (shape s steps) (values s steps) (known_values stay s steps fit) k.addr p st.addr fits.2 d in
      let olds = cells (work s steps).arrays a in
      let c : KeepsCell olds (cells (work s (steps ++ Store a p v ∷ [])).arrays a) (value_at (values s steps) k.addr) = record {
        long = ap length cells_stored ∙ length-set olds (value_at (values s steps) p) (value_at (values s steps) v);
        same = ap (λ l. get_or l (value_at (values s steps) k.addr) 0) cells_stored ∙ get_or-set_other olds (value_at (values s steps) p) (value_at (values s steps) k.addr) (value_at (values s steps) v) 0 ne;
      } in
      subst (λ b. KeepsCell (cells (work s steps).arrays b) (cells (work s (steps ++ Store a p v ∷ [])).arrays b) (value_at (values s steps) k.addr)) (sym same) c)

  stands_over : (k : Known) → Stands s steps k → stays_known (count s) steps a p k ≡ true → Stands s (steps ++ Store a p v ∷ []) k
  stands_over k st h = elim (cases_eq k.array a) [
    | inl same ↦ elim (or_cases (not (k.array == a)) (differ (count s) steps k.addr p) h) [
      | inl other ↦ absurd (eqb-false k.array a (not-true (k.array == a) other) same)
      | inr d ↦ stands_apart k st same d
    ]
    | inr ne ↦ stands_elsewhere k st ne
  ]

  pub all_over : (ks : List Known) → All (Stands s steps) ks → All (Stands s (steps ++ Store a p v ∷ [])) (filter (stays_known (count s) steps a p) ks)
  all_over [] h = All-nil (Stands s (steps ++ Store a p v ∷ []))
  all_over (k ∷ ks) h = by (all_over ks (All-tail (Stands s steps) k ks h)) (stays_known (count s) steps a p k) refl
    where
      by : All (Stands s (steps ++ Store a p v ∷ [])) (filter (stays_known (count s) steps a p) ks) → (t : Bool) → stays_known (count s) steps a p k ≡ t
          → All (Stands s (steps ++ Store a p v ∷ [])) (if t then (k ∷ filter (stays_known (count s) steps a p) ks) else filter (stays_known (count s) steps a p) ks)
      by rest true e = All-cons (Stands s (steps ++ Store a p v ∷ [])) k (filter (stays_known (count s) steps a p) ks) (stands_over k (All-head (Stands s steps) k ks h) e) rest
      by rest false e = rest

  pub stands_stored : Stands s (steps ++ Store a p v ∷ []) (record { array = a; addr = p; value = v })
  stands_stored =
      let new = steps ++ Store a p v ∷ [] in
      let g = grows_more s steps (Store a p v) in
      let olds = cells (work s steps).arrays a in
      record {
        width = fits.0;
        array = fits.1;
        addr = g.widths p 64 fits.2;
        value = g.widths v fits.0 fits.3;
        holds = λ z.
            let none = (clean_before s steps (Store a p v) z).1 in
            let lt = past_none olds (value_at (values s steps) p) none in
            let same : value_at (values s new) p ≡ value_at (values s steps) p = g.values p 64 fits.2 in
            let value : value_at (values s new) v ≡ value_at (values s steps) v = g.values v fits.0 fits.3 in
            let long = ap length cells_stored ∙ length-set olds (value_at (values s steps) p) (value_at (values s steps) v) in
            record {
              within = omega (arith, lt, same, long);
              element =
                  ap (λ l. get_or l (value_at (values s new) p) 0) cells_stored ∙ ap (λ n. get_or stored n 0) same
                  ∙ get_or-set_same olds (value_at (values s steps) p) (value_at (values s steps) v) 0 lt ∙ sym value;
            };
      }
