-- A block that is made anew, beside the old one, step by step.
use Rattle.std.proofs.Common.{◌≡◌, ℕ, ◌+◌, List, [], ◌∷◌, ◌++◌, map, length, get_or, Option, Some, None, refl, sym, ◌∙◌, ap, subst, arith, length-append, append_assoc, append-nil}
use Rattle.std.specs.Prelude.{slice_get, All}
use Rattle.std.specs.List.{flat_map, filter}
use Rattle.std.proofs.lemmas.List.Elements.{All-nil, All-push, All-weaker}
use Rattle.ir.specs.declared.instr.Instr.{Instr}
use Rattle.ir.specs.declared.instr.Instr.TheVariants.{Const, One, Two, Select, Load, Store}
use Rattle.ir.specs.Steps.{Work, value_at, cells, strays_past, step_value, step_arrays, step_strays, after_step, through, beginning}
use Rattle.ir.specs.Shapes.{Shape, IsOfWidth, IsArray, StepFits, StepsFit, element_width, step_width, shape_after}
use Rattle.ir.specs.Renaming.{renamed}
use Rattle.block_merge.specs.Found.{stored_by}
use Rattle.block_merge.proofs.JoinedValues.{somes_long}
use Rattle.block_pass.specs.Laws.{ValuesStayInWidths}
use Rattle.block_rules.specs.Known.{IsPure}
use Rattle.block_rules.specs.Laws.{RewritingsAreRight}
use Rattle.block_fold.specs.declared.known.Known.{Known}
use Rattle.block_fold.specs.Puts.{put, depth}
use Rattle.block_fold.specs.Addresses.{known_value, stays_known}
use Rattle.block_fold.specs.Simplified.{Made, nothing_made, with_number, with_put, with_access, loaded_as, stored_at, taken, new_number, taken_all}
use Rattle.block_fold.proofs.StepLemmas.{width_renamed, pure_renamed, fits_renamed, value_renamed, arrays_renamed, strays_renamed, pure_any, pure_arrays, pure_strays, pure_width, fit_shape_long}
use Rattle.block_fold.proofs.Tables.{KeepsWidth, KeepsValue, first_widths, first_values, more_widths, more_values}
use Rattle.block_fold.proofs.Growing.{Start, count, shape, work, values, Fit, work_more, fit_more, width_more, value_more, grows_more, grown_widths, grown_values, stored_more}
use Rattle.block_fold.proofs.Putting.{MayBePut, put_right}
use Rattle.block_fold.proofs.Standing.{Stands, IsFound, known_found, within_none, same_cells, stands_on, clean_before, all_loaded, stands_loaded, all_over, stands_stored}

-- where the old work has no strays: the new has none, the same arrays, and the same values under their new numbers
pub record Alike (s : Start) (ws : Shape) (w : Work) (d : Made) : Type 0 where
  pub clean : (work s d.steps).strays ≡ 0
  pub arrays : (work s d.steps).arrays ≡ w.arrays
  pub values_are : KeepsValue (count s) d.numbers ws w.values (values s d.steps)

-- beside old steps that made w, of shape ws, and stored to these arrays
pub record Follows (s : Start) (ws : Shape) (w : Work) (stored : List ℕ) (d : Made) : Type 0 where
  pub long : length ws ≡ count s + length d.numbers
  pub long_olds : length w.values ≡ length ws
  pub fit : Fit s d.steps
  pub widths : KeepsWidth (count s) d.numbers ws (shape s d.steps)
  pub stand : All (Stands s d.steps) d.known
  pub stores : flat_map stored_by d.steps ≡ stored
  pub back : (work s d.steps).strays ≡ 0 → w.strays ≡ 0
  pub over : w.strays ≡ 0 → Alike s ws w d

module _ (s : Start) (ws : Shape) (w : Work) (stored : List ℕ) (d : Made) (h : Follows s ws w stored d) (i : Instr) (fits : StepFits s.declared ws i) where
  abbrev g : ℕ → ℕ
  g = new_number (count s) d

  abbrev j : Instr
  j = renamed g i

  new_fits : StepFits s.declared (shape s d.steps) j
  new_fits = fits_renamed s.declared g ws (shape s d.steps) h.widths i fits

  long_ws : length (ws ++ step_width s.declared i ∷ []) ≡ length ws + 1
  long_ws = length-append ws (step_width s.declared i ∷ [])

  long_olds : length (after_step i w).values ≡ length w.values + 1
  long_olds = length-append w.values (step_value i w.values w.arrays ∷ [])

  -- ---- a step at the end

  pub accessed : (known : List Known) → All (Stands s (d.steps ++ j ∷ [])) known
      → Follows s (ws ++ step_width s.declared i ∷ []) (after_step i w) (stored ++ stored_by i) (with_access (count s) d j known)
  accessed known stand =
      let n = count s in
      let new = d.steps ++ j ∷ [] in
      let number = n + length d.steps in
      let x = step_width s.declared i in
      let long = h.long in
      let olds = h.long_olds in
      let wider = grows_more s d.steps j in
      let more = length-append d.numbers (number ∷ []) in
      let strays : (work s new).strays ≡ (work s d.steps).strays + step_strays j (values s d.steps) (work s d.steps).arrays = ap (λ (v : Work). v.strays) (work_more s d.steps j) in
      let alike_strays = λ (a : Alike s ws w d).
      ap (λ l. step_strays j (values s d.steps) l) a.arrays ∙ strays_renamed s.declared g ws w.values (values s d.steps) a.values_are w.arrays i fits in
      record {
        long = omega (arith, long, long_ws, more);
        long_olds = omega (arith, olds, long_ws, long_olds);
        fit = fit_more s d.steps j h.fit new_fits;
        widths = more_widths n d.numbers ws (shape s new) number x long (grown_widths s n d.numbers ws d.steps new wider h.widths)
            (λ y e. width_more s d.steps j ∙ ap Some (width_renamed s.declared g i ∙ e));
        stand = stand;
        stores = stored_more d.steps j ∙ ap (λ l. l ++ stored_by j) h.stores ∙ ap (λ l. stored ++ l) (renamed_store i);
        back = λ z.
            let none = clean_before s d.steps j z in
            let old = h.back none.0 in
            let same = alike_strays (h.over old) in
            let b = none.1 in
            omega (arith, old, same, b);
        over = λ z.
            let old : w.strays ≡ 0 = omega (arith, z) in
            let a = h.over old in
            let same = alike_strays a in
            let c = a.clean in
            record {
              clean = omega (arith, z, strays, same, c);
              arrays = ap (λ (v : Work). v.arrays) (work_more s d.steps j) ∙ ap (λ l. step_arrays j (values s d.steps) l) a.arrays ∙ arrays_renamed s.declared g ws w.values (values s d.steps) a.values_are w.arrays i fits;
              values_are = more_values n d.numbers ws w.values (values s new) number x (step_value i w.values w.arrays) long olds
                  (grown_values s n d.numbers ws w.values d.steps new wider h.widths a.values_are)
                  (λ y e. value_more s d.steps j ∙ ap (λ l. step_value j (values s d.steps) l) a.arrays ∙ value_renamed s.declared g ws w.values (values s d.steps) a.values_are w.arrays i fits);
            };
      }
    where
      renamed_store : (o : Instr) → stored_by (renamed g o) ≡ stored_by o
      renamed_store (Const y n) = refl
      renamed_store (One op a) = refl
      renamed_store (Two op a b) = refl
      renamed_store (Select y c a b) = refl
      renamed_store (Load a p) = refl
      renamed_store (Store a p v) = refl

  -- ---- a pure step

  pub purely : (stay : ValuesStayInWidths) → RewritingsAreRight → IsPure i
      → Follows s (ws ++ step_width s.declared i ∷ []) (after_step i w) (stored ++ stored_by i) (with_put d (put depth (count s) d.steps j))
  purely stay rules pure =
      let n = count s in
      let x = step_width s.declared i in
      let y = pure_width s.declared i pure in
      let q = put depth n d.steps j in
      let may : MayBePut s d.steps j y.0 = record { fit = h.fit; pure = pure_renamed g i pure; fits = new_fits; width = width_renamed s.declared g i ∙ y.1 } in
      let done = put_right stay s rules depth d.steps j y.0 may in
      let long = h.long in
      let olds = h.long_olds in
      let more = length-append d.numbers (q.number ∷ []) in
      let strays = done.stays.strays in
      let none = pure_strays i w.values w.arrays pure in
      record {
        long = omega (arith, long, long_ws, more);
        long_olds = omega (arith, olds, long_ws, long_olds);
        fit = done.fit;
        widths = more_widths n d.numbers ws (shape s q.steps) q.number x long (grown_widths s n d.numbers ws d.steps q.steps done.grows h.widths)
            (λ z e. let same : y.0 ≡ z = same_width y.0 z y.1 e in subst (λ u. IsOfWidth (shape s q.steps) q.number u) same done.width);
        stand = All-weaker (Stands s d.steps) (Stands s q.steps) (λ k st. stands_on s d.steps q.steps k st done.grows (λ z. sym strays ∙ z) (λ z. same_cells (cells (work s d.steps).arrays k.array) (cells (work s q.steps).arrays k.array) (value_at (values s d.steps) k.addr) (ap (λ l. cells l k.array) done.stays.arrays))) d.known h.stand;
        stores = done.stays.stored ∙ h.stores ∙ sym (ap (λ l. stored ++ l) (no_store i pure) ∙ append-nil stored);
        back = λ z. let old = h.back (sym strays ∙ z) in omega (arith, old, none);
        over = λ z.
            let old : w.strays ≡ 0 = omega (arith, z) in
            let a = h.over old in
            record {
              clean = strays ∙ a.clean;
              arrays = done.stays.arrays ∙ a.arrays ∙ sym (pure_arrays i w.values w.arrays pure);
              values_are = more_values n d.numbers ws w.values (values s q.steps) q.number x (step_value i w.values w.arrays) long olds
                  (grown_values s n d.numbers ws w.values d.steps q.steps done.grows h.widths a.values_are)
                  (λ z e. done.value ∙ value_renamed s.declared g ws w.values (values s d.steps) a.values_are [] i fits ∙ sym (pure_any i w.values w.arrays pure));
            };
      }
    where
      same_width : (a b : ℕ) → step_width s.declared i ≡ Some a → step_width s.declared i ≡ Some b → a ≡ b
      same_width a b e f = cc

      no_store : (o : Instr) → IsPure o → stored_by o ≡ []
      no_store (Const y n) p = refl
      no_store (One op a) p = refl
      no_store (Two op a b) p = refl
      no_store (Select y c a b) p = refl
      no_store (Load a p) q = absurd q
      no_store (Store a p v) q = absurd q

-- ---- a load of what is known

module _ (s : Start) (ws : Shape) (w : Work) (stored : List ℕ) (d : Made) (h : Follows s ws w stored d) (a p v : ℕ) (fits : StepFits s.declared ws (Load a p)) where
  known_loaded : IsFound (Stands s d.steps) a (new_number (count s) d p) v
      → Follows s (ws ++ step_width s.declared (Load a p) ∷ []) (after_step (Load a p) w) (stored ++ []) (with_number d v)
  known_loaded f =
      let n = count s in
      let x = step_width s.declared (Load a p) in
      let k = f.entry in
      let st = f.is in
      let long = h.long in
      let olds = h.long_olds in
      let more = length-append d.numbers (v ∷ []) in
      let long_ws = length-append ws (x ∷ []) in
      let long_vs = length-append w.values (step_value (Load a p) w.values w.arrays ∷ []) in
      let array = f.array in
      let addr = f.addr in
      let value = f.value in
      let same_cell = λ (l : Alike s ws w d). ap (λ b. cells (work s d.steps).arrays b) array ∙ ap (λ xs. cells xs a) l.arrays in
      let same_addr = λ (l : Alike s ws w d). ap (value_at (values s d.steps)) addr ∙ l.values_are p 64 fits.2 in
      record {
        long = omega (arith, long, long_ws, more);
        long_olds = omega (arith, olds, long_ws, long_vs);
        fit = h.fit;
        widths = more_widths n d.numbers ws (shape s d.steps) v x long h.widths
            (λ y e. let is : st.width ≡ y = same_width k.array st.width y st.array array e in subst (λ z. IsOfWidth (shape s d.steps) z y) value (subst (λ z. IsOfWidth (shape s d.steps) k.value z) is st.value));
        stand = h.stand;
        stores = h.stores ∙ sym (append-nil stored);
        back = λ z.
            let old = h.back z in
            let l = h.over old in
            let within = (st.holds z).within in
            let c = ap length (same_cell l) in
            let e = same_addr l in
            let none : strays_past (cells w.arrays a) (value_at w.values p) ≡ 0 = within_none (cells w.arrays a) (value_at w.values p) (omega (arith, within, c, e)) in
            omega (arith, old, none);
        over = λ z.
            let old : w.strays ≡ 0 = omega (arith, z) in
            let l = h.over old in
            record {
              clean = l.clean;
              arrays = l.arrays;
              values_are = more_values n d.numbers ws w.values (values s d.steps) v x (step_value (Load a p) w.values w.arrays) long olds l.values_are
                  (λ y e. ap (value_at (values s d.steps)) (sym value) ∙ sym (st.holds l.clean).element ∙ ap (λ xs. get_or xs (value_at (values s d.steps) k.addr) 0) (same_cell l) ∙ ap (λ q. get_or (cells w.arrays a) q 0) (same_addr l));
            };
      }
    where
      same_width : (b u y : ℕ) → IsArray s.declared b u → b ≡ a → element_width (slice_get s.declared a) ≡ Some y → u ≡ y
      same_width b u y arr e f =
          let z : element_width (slice_get s.declared b) ≡ Some u = ap element_width arr.1 ∙ ap Some arr.2 in
          let x : element_width (slice_get s.declared b) ≡ Some y = ap (λ c. element_width (slice_get s.declared c)) e ∙ f in
          cc

-- ---- any step, and all of them

module _ (stay : ValuesStayInWidths) (rules : RewritingsAreRight) (s : Start) where
  loads : (ws : Shape) (w : Work) (stored : List ℕ) (d : Made) → Follows s ws w stored d → (a p : ℕ) → StepFits s.declared ws (Load a p) → (o : Option ℕ)
      → known_value d.known a (new_number (count s) d p) ≡ o
      → Follows s (ws ++ step_width s.declared (Load a p) ∷ []) (after_step (Load a p) w) (stored ++ []) (loaded_as (count s) d a (new_number (count s) d p) o)
  loads ws w stored d h a p fits (Some v) e = known_loaded s ws w stored d h a p v fits (known_found (Stands s d.steps) d.known a (new_number (count s) d p) v h.stand e)
  loads ws w stored d h a p fits None e =
      let q = new_number (count s) d p in
      let f = new_fits s ws w stored d h (Load a p) fits in
      accessed s ws w stored d h (Load a p) fits (d.known ++ record { array = a; addr = q; value = count s + length d.steps } ∷ [])
      (All-push (Stands s (d.steps ++ Load a q ∷ [])) d.known (record { array = a; addr = q; value = count s + length d.steps }) (all_loaded s d.steps a q f d.known h.stand) (stands_loaded s d.steps a q f))

  stores_it : (ws : Shape) (w : Work) (stored : List ℕ) (d : Made) → Follows s ws w stored d → (a p v : ℕ) → StepFits s.declared ws (Store a p v)
      → Follows s (ws ++ None ∷ []) (after_step (Store a p v) w) (stored ++ a ∷ []) (stored_at (count s) d a (new_number (count s) d p) (new_number (count s) d v))
  stores_it ws w stored d h a p v fits =
      let q = new_number (count s) d p in
      let u = new_number (count s) d v in
      let f = new_fits s ws w stored d h (Store a p v) fits in
      let kept = filter (stays_known (count s) d.steps a q) d.known in
      accessed s ws w stored d h (Store a p v) fits (kept ++ record { array = a; addr = q; value = u } ∷ [])
      (All-push (Stands s (d.steps ++ Store a q u ∷ [])) kept (record { array = a; addr = q; value = u }) (all_over stay s d.steps a q u h.fit f d.known h.stand) (stands_stored stay s d.steps a q u h.fit f))

  one_taken : (i : Instr) (ws : Shape) (w : Work) (stored : List ℕ) (d : Made) → Follows s ws w stored d → StepFits s.declared ws i
      → Follows s (ws ++ step_width s.declared i ∷ []) (after_step i w) (stored ++ stored_by i) (taken (count s) d (renamed (new_number (count s) d) i))
  one_taken (Const x n) ws w stored d h fits = purely s ws w stored d h (Const x n) fits stay rules tt
  one_taken (One op a) ws w stored d h fits = purely s ws w stored d h (One op a) fits stay rules tt
  one_taken (Two op a b) ws w stored d h fits = purely s ws w stored d h (Two op a b) fits stay rules tt
  one_taken (Select x c a b) ws w stored d h fits = purely s ws w stored d h (Select x c a b) fits stay rules tt
  one_taken (Load a p) ws w stored d h fits = loads ws w stored d h a p fits (known_value d.known a (new_number (count s) d p)) refl
  one_taken (Store a p v) ws w stored d h fits = stores_it ws w stored d h a p v fits

  pub all_taken : (is : List Instr) (ws : Shape) (w : Work) (stored : List ℕ) (d : Made) → Follows s ws w stored d → StepsFit s.declared ws is
      → Follows s (shape_after s.declared ws is) (through is w) (stored ++ flat_map stored_by is) (taken_all (count s) d is)
  all_taken [] ws w stored d h fits = subst (λ l. Follows s ws w l d) (sym (append-nil stored)) h
  all_taken (i ∷ is) ws w stored d h fits =
      let e = taken (count s) d (renamed (new_number (count s) d) i) in
      let r = all_taken is (ws ++ step_width s.declared i ∷ []) (after_step i w) (stored ++ stored_by i) e (one_taken i ws w stored d h fits.0) fits.1 in
      subst (λ l. Follows s (shape_after s.declared ws (i ∷ is)) (through (i ∷ is) w) l (taken_all (count s) e is)) (append_assoc stored (stored_by i) (flat_map stored_by is)) r

  -- from the beginning
  first_follows : Follows s (map Some s.args) (beginning s.given s.arrays) [] nothing_made
  first_follows =
      let n = somes_long s.args in
      record {
        long = omega (arith, n);
        long_olds = fit_shape_long (map Some s.args) s.given s.fit_given;
        fit = tt;
        widths = first_widths (count s) (map Some s.args) n;
        stand = All-nil (Stands s []);
        stores = refl;
        back = λ z. z;
        over = λ z. record { clean = refl; arrays = refl; values_are = first_values (count s) (map Some s.args) s.given n };
      }

  pub block_taken : (is : List Instr) → Fit s is → Follows s (shape s is) (work s is) (flat_map stored_by is) (taken_all (count s) nothing_made is)
  block_taken is fits = all_taken is (map Some s.args) (beginning s.given s.arrays) [] nothing_made first_follows fits
