-- The lines of arrays and strays, and the last line.
use Rattle.std.proofs.Common.{◌≡◌, ◌≢◌, ◌⊎◌, ℕ, zero, suc, ◌+◌, ◌-◌, ◌<◌, ◌≤◌, ◌^◌, Bool, true, false, List, [], ◌∷◌, ◌++◌, map, length, drop, get_or, set, codes, decimal, refl, sym, ap, subst, ◌∙◌, inl, inr, arith, lit<, get_or-set_same, get_or-set_other, length-set}
use Rattle.std.specs.List.{All, AllZip}
use Rattle.std.proofs.lemmas.Bool.{false≢true, cases_eq, cases_lt}
use Rattle.std.proofs.lemmas.Fmt.{decimal_injective}
use Rattle.std.proofs.lemmas.List.{ext_get_or, get_or_past}
use Rattle.el_base.specs.declared.ty.Array.{Array}
use Rattle.net_types.specs.declared.net.Net.{Net}
use Rattle.net_types.specs.Inputs.{IsPatternOf, AreElementsOf, InputsFit}
use Rattle.net_types.specs.Nets.{kind_of}
use Rattle.net_text.specs.Reads.{lacks}
use Rattle.net_text.proofs.Cuts.{decimal_lacks}
use Rattle.net_core.specs.Parts.{no_part}
use Rattle.inputs_text.specs.Results.{written}
use Rattle.snapshot.specs.declared.draft.Draft.{Draft}
use Rattle.snapshot.specs.declared.draft.Stage.{Stage}
use Rattle.snapshot.specs.declared.draft.Stage.TheVariants.{Arrays, Strays, Ended}
use Rattle.snapshot.specs.declared.saved.Saved.{Saved}
use Rattle.snapshot.specs.Fits.{Fits, max_count}
use Rattle.snapshot.specs.Refusals.{MaySave}
use Rattle.snapshot.specs.Texts.{each, words, no_array, array_lines, stray_lines, end_line, from_strays}
use Rattle.snapshot.specs.private.Words.{AreWords, array_words, stray_words, end_words}
use Rattle.snapshot.specs.private.Drafts.{AgreeBelow, ToQueues, ToArrays, ToStrays, at_arrays, at_strays, Takes, Taken, Refuses}
use Rattle.snapshot.proofs.Agrees.{agree_set, agree_unset, each_unroll, each_none}
use Rattle.snapshot.proofs.Frames.{fits_plain}
use Rattle.snapshot.proofs.Spelt.{LackAll, lack_more, lack_none, lack_map, same_words, written_lacks, writtens_same}
use Rattle.snapshot.proofs.Stages1.{Passes, first_of, each_start, zip_long}
use Rattle.snapshot.proofs.Stages4.{forks_like}

array_set : (xs : List Array) (vs : List (List ℕ)) (j : ℕ) (v : List ℕ) → AllZip AreElementsOf xs vs → j < length xs → AreElementsOf (get_or xs j no_array) v → AllZip AreElementsOf xs (set vs j v)
array_set [] [] j v h w p = absurd (omega arith)
array_set [] (x ∷ vs) j v h w p = absurd h
array_set (s ∷ ss) [] j v h w p = absurd h
array_set (s ∷ ss) (x ∷ vs) zero v h w p = (p, h.1)
array_set (s ∷ ss) (x ∷ vs) (suc j) v h w p = (h.0, array_set ss vs j v h.1 (omega arith) p)

pub array_at : (xs : List Array) (vs : List (List ℕ)) (j : ℕ) → AllZip AreElementsOf xs vs → j < length xs → AreElementsOf (get_or xs j no_array) (get_or vs j [])
array_at [] vs j h w = absurd (omega arith)
array_at (s ∷ ss) [] j h w = absurd h
array_at (s ∷ ss) (x ∷ vs) zero h w = h.0
array_at (s ∷ ss) (x ∷ vs) (suc j) h w = array_at ss vs j h.1 (omega arith)

pub array_long : (xs : List Array) (vs : List (List ℕ)) → AllZip AreElementsOf xs vs → length vs ≡ length xs
array_long [] [] h = refl
array_long [] (x ∷ vs) h = absurd h
array_long (s ∷ ss) [] h = absurd h
array_long (s ∷ ss) (x ∷ vs) h = ap suc (array_long ss vs h.1)

queues_like : (net : Net) (u : ℕ) (d e s : Saved) → ToQueues net u d s → e.made ≡ d.made → e.parts.given.scalars ≡ d.parts.given.scalars → e.parts.fired ≡ d.parts.fired → e.parts.value ≡ d.parts.value
    → e.parts.tokens ≡ d.parts.tokens → e.parts.sent ≡ d.parts.sent → e.parts.queues ≡ d.parts.queues → ToQueues net u e s
queues_like net u d e s t m sc f v k b q = record { before = forks_like net _ d e s t.before m sc f v k b; queues = subst (AgreeBelow no_part u s.parts.queues) (sym q) t.queues }

module _ (net : Net) (ws : List (List ℕ)) (a : AreWords ws) (j : ℕ) (within : j < length net.arrays) (name : lacks 32 (get_or net.arrays j no_array).name ≡ true) where
  abbrev here : Array
  here = get_or net.arrays j no_array

  -- ---- arrays

  abbrev with_arrays : Saved → List (List ℕ) → Saved
  with_arrays d xs = record d { parts = record d.parts { given = record d.parts.given { arrays = xs } } }

  array_lack : (vs : List ℕ) → All (IsPatternOf here.ty) vs → LackAll 32 (array_words here vs)
  array_lack vs p = lack_more 32 (codes "array") _ refl (lack_more 32 here.name _ name (lack_more 32 (codes "=") _ refl (lack_map 32 (IsPatternOf here.ty) (written here.ty) (λ v f. written_lacks 32 here.ty v (lit< tt) f) vs p)))

  arrays_are : (s : Saved) → at_arrays net j s ≡ words (array_words here (get_or s.parts.given.arrays j [])) ∷ at_arrays net (j + 1) s
  arrays_are s = ap (λ ls. ls ++ from_strays net s.parts) (each_unroll (array_lines net.arrays s.parts.given.arrays) j (length net.arrays) within)

  elements : (s : Saved) → MaySave net s → AreElementsOf here (get_or s.parts.given.arrays j [])
  elements s m = array_at net.arrays s.parts.given.arrays j m.fits.stands.fit.arrays within

  array_is : (s : Saved) → MaySave net s → (more : List (List ℕ)) → at_arrays net j s ≡ words ws ∷ more → array_words here (get_or s.parts.given.arrays j []) ≡ ws
  array_is s m more e = same_words (codes "array") _ ws (array_lack _ (elements s m).patterns) a (first_of _ _ (words ws) more (sym (arrays_are s) ∙ e))

  pub array_refused : (d : Saved) → ((vs : List ℕ) → AreElementsOf here vs → array_words here vs ≡ ws → ⊥) → Refuses net (ToArrays net j d) (at_arrays net j) (words ws)
  array_refused d never s m t more e = never _ (elements s m) (array_is s m more e)

  pub array_taken : (d : Saved) (vs : List ℕ) (xs : List (List ℕ)) → MaySave net d → AreElementsOf here vs → array_words here vs ≡ ws → xs ≡ set d.parts.given.arrays j vs
      → Taken net (ToArrays net j d) (at_arrays net j) (words ws) (record { stage = Arrays (j + 1); saved = with_arrays d xs })
  array_taken d vs xs m p e new = record {
    stands = record { may = record { made = m.made; fits = fits }; blank = omega arith };
    takes = record {
      forth = λ s k t more is. record { before = queues_like net _ d (with_arrays d xs) s t.before refl refl refl refl refl refl refl; arrays = subst (AgreeBelow [] (j + 1) s.parts.given.arrays) (sym new) (agree_set [] j s.parts.given.arrays d.parts.given.arrays vs long (elements_are s k more is) t.arrays) };
      back = λ s k t. (let u = agree_unset [] j s.parts.given.arrays d.parts.given.arrays vs long (subst (AgreeBelow [] (j + 1) s.parts.given.arrays) new t.arrays) in (
        record { before = queues_like net _ (with_arrays d xs) d s t.before refl refl refl refl refl refl refl; arrays = u.0 },
        arrays_are s ∙ ap (λ n. words (array_words here n) ∷ at_arrays net (j + 1) s) u.1 ∙ ap (λ x. words x ∷ at_arrays net (j + 1) s) e,
      ));
    };
  }
    where
      long : j < length d.parts.given.arrays
      long = let z = array_long net.arrays d.parts.given.arrays m.fits.stands.fit.arrays in omega arith

      elements_are : (s : Saved) → MaySave net s → (more : List (List ℕ)) → at_arrays net j s ≡ words ws ∷ more → get_or s.parts.given.arrays j [] ≡ vs
      elements_are s k more is = writtens_same here.ty _ vs (elements s k).patterns p.patterns (ap (drop 3) (array_is s k more is ∙ sym e))

      given : InputsFit net (record d.parts.given { arrays = xs })
      given = record { scalars = m.fits.stands.fit.scalars; arrays = subst (AllZip AreElementsOf net.arrays) (sym new) (array_set net.arrays d.parts.given.arrays j vs m.fits.stands.fit.arrays within p) }

      fits : Fits net (with_arrays d xs).parts
      fits = fits_plain net d.parts (record d.parts.given { arrays = xs }) d.parts.fired d.parts.value d.parts.strays m.fits given m.fits.by_unit.fired_long m.fits.by_unit.fired m.fits.value m.fits.stands.strays m.fits.strays

  -- ---- strays

  abbrev with_strays : Saved → List ℕ → Saved
  with_strays d xs = record d { parts = record d.parts { strays = xs } }

  stray_lack : (n : ℕ) → n ≤ max_count → LackAll 32 (stray_words here n)
  stray_lack n p = lack_more 32 (codes "stray") _ refl (lack_more 32 here.name _ name (lack_more 32 (decimal n) [] (decimal_lacks 32 n (lit< tt) (omega arith)) (lack_none 32)))

  strays_are : (s : Saved) → at_strays net j s ≡ words (stray_words here (get_or s.parts.strays j 0)) ∷ at_strays net (j + 1) s
  strays_are s = ap (λ ls. ls ++ end_line ∷ []) (each_unroll (stray_lines net.arrays s.parts.strays) j (length net.arrays) within)

  stray_is : (s : Saved) → MaySave net s → (more : List (List ℕ)) → at_strays net j s ≡ words ws ∷ more → stray_words here (get_or s.parts.strays j 0) ≡ ws
  stray_is s m more e = same_words (codes "stray") _ ws (stray_lack _ (m.fits.strays j)) a (first_of _ _ (words ws) more (sym (strays_are s) ∙ e))

  pub stray_refused : (d : Saved) → ((n : ℕ) → n ≤ max_count → stray_words here n ≡ ws → ⊥) → Refuses net (ToStrays net j d) (at_strays net j) (words ws)
  stray_refused d never s m t more e = never _ (m.fits.strays j) (stray_is s m more e)

  pub stray_taken : (d : Saved) (n : ℕ) (xs : List ℕ) → MaySave net d → n ≤ max_count → stray_words here n ≡ ws → xs ≡ set d.parts.strays j n
      → Taken net (ToStrays net j d) (at_strays net j) (words ws) (record { stage = Strays (j + 1); saved = with_strays d xs })
  stray_taken d n xs m small e new = record {
    stands = record { may = record { made = m.made; fits = fits }; blank = omega arith };
    takes = record {
      forth = λ s k t more is. record {
        before = record { before = queues_like net _ d (with_strays d xs) s t.before.before refl refl refl refl refl refl refl; arrays = t.before.arrays };
        strays = subst (AgreeBelow 0 (j + 1) s.parts.strays) (sym new) (agree_set 0 j s.parts.strays d.parts.strays n long (count_is s k more is) t.strays);
      };
      back = λ s k t. (let u = agree_unset 0 j s.parts.strays d.parts.strays n long (subst (AgreeBelow 0 (j + 1) s.parts.strays) new t.strays) in (
        record { before = record { before = queues_like net _ (with_strays d xs) d s t.before.before refl refl refl refl refl refl refl; arrays = t.before.arrays }; strays = u.0 },
        strays_are s ∙ ap (λ n. words (stray_words here n) ∷ at_strays net (j + 1) s) u.1 ∙ ap (λ x. words x ∷ at_strays net (j + 1) s) e,
      ));
    };
  }
    where
      long : j < length d.parts.strays
      long = let z = m.fits.stands.strays in omega arith

      count_is : (s : Saved) → MaySave net s → (more : List (List ℕ)) → at_strays net j s ≡ words ws ∷ more → get_or s.parts.strays j 0 ≡ n
      count_is s k more is = let most = k.fits.strays j in decimal_injective _ n (omega arith) (omega arith) (ap (λ x. get_or x 2 []) (stray_is s k more is ∙ sym e))

      count_at : (i : ℕ) → (i ≡ j) ⊎ (i ≡ j → ⊥) → get_or xs i 0 ≤ max_count
      count_at i (inl z) = subst (λ n. n ≤ max_count) (sym (ap (λ l. get_or l i 0) new ∙ ap (λ k. get_or (set d.parts.strays j n) k 0) z ∙ get_or-set_same d.parts.strays j n 0 long)) small
      count_at i (inr z) = subst (λ n. n ≤ max_count) (sym (ap (λ l. get_or l i 0) new ∙ get_or-set_other d.parts.strays j i n 0 z)) (m.fits.strays i)

      fits : Fits net (with_strays d xs).parts
      fits = fits_plain net d.parts d.parts.given d.parts.fired d.parts.value xs m.fits m.fits.stands.fit m.fits.by_unit.fired_long m.fits.by_unit.fired m.fits.value (ap length new ∙ length-set d.parts.strays j n ∙ m.fits.stands.strays) (λ i. count_at i (cases_eq i j))

-- all arrays have come
pub arrays_pass : (net : Net) (l : List ℕ) (j : ℕ) (d : Saved) → j ≤ length net.arrays → length net.arrays ≤ j → Passes net (ToArrays net j d) (at_arrays net j) l (ToStrays net 0 d) (at_strays net 0)
arrays_pass net l j d low past = record {
  forth = λ s m t more e. record { before = record { before = t.before; arrays = λ i below. t.arrays i (omega arith) }; strays = λ i below. absurd (omega arith) };
  back = λ s m t. (
    record { before = t.before.before; arrays = λ i below. t.before.arrays i (omega arith) },
    ap (λ ls. ls ++ from_strays net s.parts) (each_none (array_lines net.arrays s.parts.given.arrays) j (length net.arrays) past)
        ∙ ap (λ ls. ls ++ end_line ∷ []) (sym (each_start (stray_lines net.arrays s.parts.strays) (length net.arrays))),
  );
}

-- ---- the last line

-- a state that shares all with another is that one
pub all_same : (net : Net) (j : ℕ) → length net.arrays ≤ j → (d s : Saved) → MaySave net d → MaySave net s → ToStrays net j d s → s ≡ d
all_same net j past d s m k t =
    let made = t.before.before.before.before.before.before.made in
    let scalars = ext_get_or 0 s.parts.given.scalars d.parts.given.scalars (zip_long net.scalars _ k.fits.stands.fit.scalars ∙ sym (zip_long net.scalars _ m.fits.stands.fit.scalars))
    (λ i l. t.before.before.before.before.before.before.scalars i (let z = zip_long net.scalars _ k.fits.stands.fit.scalars in omega arith)) in
    let fired = ext_get_or false s.parts.fired d.parts.fired (k.fits.by_unit.fired_long ∙ sym m.fits.by_unit.fired_long) (λ i l. t.before.before.before.before.before.fired i (let z = k.fits.by_unit.fired_long in omega arith)) in
    let value = t.before.before.before.before.value in
    let tokens = ext_get_or [] s.parts.tokens d.parts.tokens (k.fits.stands.chans ∙ sym m.fits.stands.chans) (λ i l. t.before.before.before.before.tokens i (let z = k.fits.stands.chans in omega arith)) in
    let sent = ext_get_or [] s.parts.sent d.parts.sent (k.fits.by_unit.sent_long ∙ sym m.fits.by_unit.sent_long) (λ i l. t.before.before.before.sent i (let z = k.fits.by_unit.sent_long in omega arith)) in
    let queues = ext_get_or no_part s.parts.queues d.parts.queues (k.fits.by_unit.queues_long ∙ sym m.fits.by_unit.queues_long) (λ i l. t.before.before.queues i (let z = k.fits.by_unit.queues_long in omega arith)) in
    let arrays = ext_get_or [] s.parts.given.arrays d.parts.given.arrays (array_long net.arrays _ k.fits.stands.fit.arrays ∙ sym (array_long net.arrays _ m.fits.stands.fit.arrays))
    (λ i l. t.before.arrays i (let z = array_long net.arrays _ k.fits.stands.fit.arrays in omega arith)) in
    let strays = ext_get_or 0 s.parts.strays d.parts.strays (k.fits.stands.strays ∙ sym m.fits.stands.strays) (λ i l. t.strays i (let z = k.fits.stands.strays in omega arith)) in
    λ i. record {
      made = made i;
      parts = record { given = record { scalars = scalars i; arrays = arrays i }; tokens = tokens i; sent = sent i; fired = fired i; value = value i; queues = queues i; strays = strays i };
    }

module _ (net : Net) (ws : List (List ℕ)) (a : AreWords ws) (j : ℕ) (low : j ≤ length net.arrays) (past : length net.arrays ≤ j) where
  end_is : (s : Saved) → at_strays net j s ≡ end_line ∷ []
  end_is s = ap (λ ls. ls ++ end_line ∷ []) (each_none (stray_lines net.arrays s.parts.strays) j (length net.arrays) past)

  pub end_refused : (d : Saved) → (end_words ≡ ws → ⊥) → Refuses net (ToStrays net j d) (at_strays net j) (words ws)
  end_refused d never s m t more e = never (same_words (codes "end") [] ws (lack_more 32 (codes "end") [] refl (lack_none 32)) a (first_of end_line [] (words ws) more (sym (end_is s) ∙ e)))

  pub end_taken : (d : Saved) → MaySave net d → end_words ≡ ws → Taken net (ToStrays net j d) (at_strays net j) (words ws) (record { stage = Ended; saved = d })
  end_taken d m e = record {
    stands = record { may = m; blank = tt };
    takes = record {
      forth = λ s k t more is. all_same net j past d s m k t;
      back = λ s k same. (shares s same, end_is s ∙ ap (λ x. words x ∷ []) e);
    };
  }
    where
      own : ToStrays net j d d
      own = record {
        before = record {
          before = record {
            before = record { before = record { before = record { before = record { made = refl; scalars = λ i l. refl }; fired = λ i l. refl }; value = refl; tokens = λ i l. refl }; sent = λ i l. refl };
            queues = λ i l. refl;
          };
          arrays = λ i l. refl;
        };
        strays = λ i l. refl;
      }

      shares : (s : Saved) → s ≡ d → ToStrays net j d s
      shares s same = subst (ToStrays net j d) (sym same) own
