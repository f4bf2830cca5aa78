-- The lines up to the result: what each makes of the draft, and when it may not be next.
use Rattle.std.proofs.Common.{◌≡◌, ◌⊎◌, ℕ, zero, suc, ◌+◌, ◌-◌, ◌<◌, ◌≤◌, ◌^◌, Bool, true, false, Option, Some, None, is_some, List, [], ◌∷◌, ◌++◌, length, get_or, set, codes, decimal, refl, sym, ap, subst, ◌∙◌, inl, inr, arith, lit<, get_or-set_same, get_or-set_other, length-set}
use Rattle.std.specs.List.{AllZip}
use Rattle.std.proofs.lemmas.Bool.{false≢true, cases_eq}
use Rattle.std.proofs.lemmas.Fmt.{decimal_injective}
use Rattle.el_base.specs.declared.ty.Scalar.{Scalar}
use Rattle.el_base.specs.declared.ty.Ty.{Ty}
use Rattle.el_base.specs.declared.ty.Ty.TheVariants.{I8, U8, I16, U16, I32, U32, I64, U64}
use Rattle.el_base.specs.Limits.{max_firings}
use Rattle.el_base.specs.Widths.{ty_width}
use Rattle.net_types.specs.declared.net.Net.{Net}
use Rattle.net_types.specs.declared.net.Unit.TheVariants.{Exit}
use Rattle.net_types.specs.Inputs.{IsPatternOf, InputsFit}
use Rattle.net_types.specs.Nets.{kind_of}
use Rattle.net_check.specs.Checks.{IsChecked}
use Rattle.net_text.specs.Reads.{lacks}
use Rattle.net_text.proofs.Cuts.{decimal_lacks}
use Rattle.net_core.specs.Parts.{fires_once}
use Rattle.inputs_text.specs.Results.{written}
use Rattle.snapshot.specs.declared.draft.Draft.{Draft}
use Rattle.snapshot.specs.declared.draft.Stage.TheVariants.{Made, Scalars, Fired}
use Rattle.snapshot.specs.declared.saved.Saved.{Saved}
use Rattle.snapshot.specs.Fits.{Fits, ValueFits}
use Rattle.snapshot.specs.Refusals.{MaySave, texts}
use Rattle.snapshot.specs.Texts.{each, words, no_scalar, scalar_lines, flag_lines, fired_lines, first_line, made_line, from_scalars, from_fired, from_value}
use Rattle.snapshot.specs.private.Words.{AreWords, first_words, number_words, scalar_words, FiredFits, ValueIsOf}
use Rattle.snapshot.specs.private.Drafts.{AgreeBelow, BlankFrom, ToScalars, ToFired, ToValue, at_made, at_scalars, at_fired, at_value, BlankFired, BlankChans, BlankForks, Taken, Refuses}
use Rattle.snapshot.proofs.Agrees.{agree_set, agree_unset, each_unroll, each_none, take_forth, take_back, pass_forth, pass_back}
use Rattle.snapshot.proofs.Frames.{fits_plain}
use Rattle.snapshot.proofs.Keys.{key, no_fired}
use Rattle.snapshot.proofs.Spelt.{LackAll, lack_more, lack_none, same_words, written_lacks, written_same}

pub first_of : (x : List ℕ) (xs : List (List ℕ)) (y : List ℕ) (ys : List (List ℕ)) → x ∷ xs ≡ y ∷ ys → x ≡ y
first_of x xs y ys e = ap (λ l. get_or l 0 x) e

-- ---- passing a stage whose lines are over

pub record Passes (net : Net) (Before : Saved → Type 0) (left : Saved → List (List ℕ)) (line : List ℕ) (After : Saved → Type 0) (later : Saved → List (List ℕ)) : Type 0 where
  pub forth : (s : Saved) → MaySave net s → Before s → (more : List (List ℕ)) → left s ≡ line ∷ more → After s
  pub back : (s : Saved) → MaySave net s → After s → Before s × (left s ≡ later s)

pub pass_taken : (net : Net) (P Q : Saved → Type 0) (f g : Saved → List (List ℕ)) (l : List ℕ) (d : Draft) → Passes net P f l Q g → Taken net Q g l d → Taken net P f l d
pass_taken net P Q f g l d p t = record {
  stands = t.stands;
  takes = record {
    forth = λ s m b more e. (let q = p.forth s m b more e in t.takes.forth s m q more (sym (p.back s m q).1 ∙ e));
    back = λ s m a. (let q = t.takes.back s m a in let b = p.back s m q.0 in (b.0, b.1 ∙ q.1));
  };
}

pub pass_refused : (net : Net) (P Q : Saved → Type 0) (f g : Saved → List (List ℕ)) (l : List ℕ) → Passes net P f l Q g → Refuses net Q g l → Refuses net P f l
pass_refused net P Q f g l p r s m b more e = let q = p.forth s m b more e in r s m q more (sym (p.back s m q).1 ∙ e)

-- ---- what is blank, in other data

pub blank_forks : (net : Net) (u : ℕ) (d e : Saved) → BlankForks net u d → e.parts.sent ≡ d.parts.sent → BlankForks net u e
blank_forks net u d e b s = record { within = b.within; sent = subst (BlankFrom [] u) (sym s) b.sent }

pub blank_chans : (net : Net) (c : ℕ) (d e : Saved) → BlankChans net c d → e.parts.tokens ≡ d.parts.tokens → e.parts.sent ≡ d.parts.sent → BlankChans net c e
blank_chans net c d e b t s = record { within = b.within; tokens = subst (BlankFrom [] c) (sym t) b.tokens; forks = blank_forks net 0 d e b.forks s }

pub blank_fired : (net : Net) (u : ℕ) (d e : Saved) → BlankFired net u d → e.parts.fired ≡ d.parts.fired → e.parts.tokens ≡ d.parts.tokens → e.parts.sent ≡ d.parts.sent → BlankFired net u e
blank_fired net u d e b f t s = record { within = b.within; fired = subst (BlankFrom false u) (sym f) b.fired; chans = blank_chans net 0 d e b.chans t s }

-- all items from the first on
pub each_start : (f : ℕ → List (List ℕ)) (n : ℕ) → each f 0 (n - 0) ≡ each f 0 n
each_start f n = ap (each f 0) (omega arith)

-- ---- the first line

module _ (net : Net) (ws : List (List ℕ)) where
  abbrev l : List ℕ
  l = words ws

  pub first_taken : (d : Saved) → MaySave net d → BlankFired net 0 d → first_words ≡ ws → Taken net (λ s. Unit {0}) (texts net) l (record { stage = Made; saved = d })
  first_taken d m b e = record {
    stands = record { may = m; blank = b };
    takes = record { forth = λ s k t more is. tt; back = λ s k t. (tt, ap (λ x. words x ∷ at_made net s) e) };
  }

  pub first_refused : AreWords ws → (first_words ≡ ws → ⊥) → Refuses net (λ s. Unit {0}) (texts net) l
  first_refused a n s m t more e =
      n (same_words (codes "elastic") _ ws (lack_more 32 (codes "elastic") _ refl (lack_more 32 (codes "state") _ refl (lack_more 32 (codes "1") [] refl (lack_none 32)))) a (first_of first_line _ l more e))

  -- ---- the number of firings made

  abbrev with_made : Saved → ℕ → Saved
  with_made d n = record d { made = n }

  number_lack : (word : List ℕ) (n : ℕ) → lacks 32 word ≡ true → n < 2 ^ 64 → LackAll 32 (number_words word n)
  number_lack word n w small = lack_more 32 word _ w (lack_more 32 (decimal n) [] (decimal_lacks 32 n (lit< tt) small) (lack_none 32))

  made_small : (n : ℕ) → n ≤ max_firings → n < 2 ^ 64
  made_small n h = omega arith

  pub made_taken : (d : Saved) (n : ℕ) → MaySave net d → BlankFired net 0 d → AreWords ws → n ≤ max_firings → number_words (codes "made") n ≡ ws
      → Taken net (λ s. Unit {0}) (at_made net) l (record { stage = Scalars 0; saved = with_made d n })
  made_taken d n m b a small e = record {
    stands = record { may = record { made = small; fits = m.fits }; blank = record { within = omega arith; fired = blank_fired net 0 d (with_made d n) b refl refl refl } };
    takes = record {
      forth = λ s k t more is. record { made = made_is s k more is; scalars = λ j below. absurd (omega arith) };
      back = λ s k t. (tt, ap (λ x. made_line x ∷ from_scalars net s.parts) t.made ∙ ap (λ x. words x ∷ from_scalars net s.parts) e ∙ ap (λ ls. words ws ∷ (ls ++ from_fired net s.parts)) (sym (each_start (scalar_lines net.scalars s.parts.given.scalars) (length net.scalars))));
    };
  }
    where
      made_is : (s : Saved) → MaySave net s → (more : List (List ℕ)) → at_made net s ≡ l ∷ more → s.made ≡ n
      made_is s k more is =
          let same = same_words (codes "made") (decimal s.made ∷ []) ws (number_lack (codes "made") s.made refl (made_small s.made k.made)) a (first_of (made_line s.made) _ l more is) in
          decimal_injective s.made n (made_small s.made k.made) (made_small n small) (ap (λ x. get_or x 1 []) (same ∙ sym e))

  pub made_refused : (d : Saved) → AreWords ws → ((n : ℕ) → n ≤ max_firings → number_words (codes "made") n ≡ ws → ⊥) → Refuses net (λ s. Unit {0}) (at_made net) l
  made_refused d a n s m t more e =
      n s.made m.made (same_words (codes "made") (decimal s.made ∷ []) ws (number_lack (codes "made") s.made refl (made_small s.made m.made)) a (first_of (made_line s.made) _ l more e))

-- ---- scalars

zip_set : (ss : List Scalar) (vs : List ℕ) (j v : ℕ) → AllZip (λ (s : Scalar) n. IsPatternOf s.ty n) ss vs → j < length ss → IsPatternOf (get_or ss j no_scalar).ty v → AllZip (λ (s : Scalar) n. IsPatternOf s.ty n) ss (set vs j v)
zip_set [] [] j v h w p = absurd (omega arith)
zip_set [] (x ∷ vs) j v h w p = absurd h
zip_set (s ∷ ss) [] j v h w p = absurd h
zip_set (s ∷ ss) (x ∷ vs) zero v h w p = (p, h.1)
zip_set (s ∷ ss) (x ∷ vs) (suc j) v h w p = (h.0, zip_set ss vs j v h.1 (omega arith) p)

pub zip_at : (ss : List Scalar) (vs : List ℕ) (j : ℕ) → AllZip (λ (s : Scalar) n. IsPatternOf s.ty n) ss vs → j < length ss → IsPatternOf (get_or ss j no_scalar).ty (get_or vs j 0)
zip_at [] vs j h w = absurd (omega arith)
zip_at (s ∷ ss) [] j h w = absurd h
zip_at (s ∷ ss) (x ∷ vs) zero h w = h.0
zip_at (s ∷ ss) (x ∷ vs) (suc j) h w = zip_at ss vs j h.1 (omega arith)

pub zip_long : (ss : List Scalar) (vs : List ℕ) → AllZip (λ (s : Scalar) n. IsPatternOf s.ty n) ss vs → length vs ≡ length ss
zip_long [] [] h = refl
zip_long [] (x ∷ vs) h = absurd h
zip_long (s ∷ ss) [] h = absurd h
zip_long (s ∷ ss) (x ∷ vs) h = ap suc (zip_long ss vs h.1)

module _ (net : Net) (ws : List (List ℕ)) (a : AreWords ws) (j : ℕ) (within : j < length net.scalars) (name : lacks 32 (get_or net.scalars j no_scalar).name ≡ true) where
  abbrev here : Scalar
  here = get_or net.scalars j no_scalar

  abbrev with_scalars : Saved → List ℕ → Saved
  with_scalars d xs = record d { parts = record d.parts { given = record d.parts.given { scalars = xs } } }

  scalar_lack : (v : ℕ) → IsPatternOf here.ty v → LackAll 32 (scalar_words here v)
  scalar_lack v p = lack_more 32 (codes "scalar") _ refl (lack_more 32 here.name _ name (lack_more 32 (codes "=") _ refl (lack_more 32 (written here.ty v) [] (written_lacks 32 here.ty v (lit< tt) p) (lack_none 32))))

  scalars_are : (s : Saved) → at_scalars net j s ≡ words (scalar_words here (get_or s.parts.given.scalars j 0)) ∷ at_scalars net (j + 1) s
  scalars_are s = ap (λ ls. ls ++ from_fired net s.parts) (each_unroll (scalar_lines net.scalars s.parts.given.scalars) j (length net.scalars) within)

  scalar_is : (s : Saved) → MaySave net s → (more : List (List ℕ)) → at_scalars net j s ≡ words ws ∷ more → scalar_words here (get_or s.parts.given.scalars j 0) ≡ ws
  scalar_is s m more e = same_words (codes "scalar") _ ws (scalar_lack _ (zip_at net.scalars s.parts.given.scalars j m.fits.stands.fit.scalars within)) a (first_of _ _ (words ws) more (sym (scalars_are s) ∙ e))

  pub scalar_taken : (d : Saved) (v : ℕ) (xs : List ℕ) → MaySave net d → BlankFired net 0 d → IsPatternOf here.ty v → scalar_words here v ≡ ws → xs ≡ set d.parts.given.scalars j v
      → Taken net (ToScalars j d) (at_scalars net j) (words ws) (record { stage = Scalars (j + 1); saved = with_scalars d xs })
  scalar_taken d v xs m b p e new = record {
    stands = record { may = record { made = m.made; fits = fits }; blank = record { within = omega arith; fired = blank_fired net 0 d (with_scalars d xs) b refl refl refl } };
    takes = record {
      forth = λ s k t more is. record { made = t.made; scalars = subst (AgreeBelow 0 (j + 1) s.parts.given.scalars) (sym new) (agree_set 0 j s.parts.given.scalars d.parts.given.scalars v long (value_is s k more is) t.scalars) };
      back = λ s k t. (let u = agree_unset 0 j s.parts.given.scalars d.parts.given.scalars v long (subst (AgreeBelow 0 (j + 1) s.parts.given.scalars) new t.scalars) in (
        record { made = t.made; scalars = u.0 },
        scalars_are s ∙ ap (λ n. words (scalar_words here n) ∷ at_scalars net (j + 1) s) u.1 ∙ ap (λ x. words x ∷ at_scalars net (j + 1) s) e,
      ));
    };
  }
    where
      long : j < length d.parts.given.scalars
      long = let z = zip_long net.scalars d.parts.given.scalars m.fits.stands.fit.scalars in omega arith

      value_is : (s : Saved) → MaySave net s → (more : List (List ℕ)) → at_scalars net j s ≡ words ws ∷ more → get_or s.parts.given.scalars j 0 ≡ v
      value_is s k more is = written_same here.ty _ v (zip_at net.scalars s.parts.given.scalars j k.fits.stands.fit.scalars within) p (ap (λ x. get_or x 3 []) (scalar_is s k more is ∙ sym e))

      given : InputsFit net (record d.parts.given { scalars = xs })
      given = record { scalars = subst (AllZip (λ (s : Scalar) n. IsPatternOf s.ty n) net.scalars) (sym new) (zip_set net.scalars d.parts.given.scalars j v m.fits.stands.fit.scalars within p); arrays = m.fits.stands.fit.arrays }

      fits : Fits net (with_scalars d xs).parts
      fits = fits_plain net d.parts (record d.parts.given { scalars = xs }) d.parts.fired d.parts.value d.parts.strays m.fits given m.fits.by_unit.fired_long m.fits.by_unit.fired m.fits.value m.fits.stands.strays m.fits.strays

  pub scalar_refused : (d : Saved) → ((v : ℕ) → IsPatternOf here.ty v → scalar_words here v ≡ ws → ⊥) → Refuses net (ToScalars j d) (at_scalars net j) (words ws)
  scalar_refused d never s m t more e = never _ (zip_at net.scalars s.parts.given.scalars j m.fits.stands.fit.scalars within) (scalar_is s m more e)

-- all scalars have come
pub scalars_pass : (net : Net) (l : List ℕ) (j : ℕ) (d : Saved) → j ≤ length net.scalars → length net.scalars ≤ j → Passes net (ToScalars j d) (at_scalars net j) l (ToFired net 0 d) (at_fired net 0)
scalars_pass net l j d low past = record {
  forth = λ s m t more e. record { before = record { made = t.made; scalars = λ i below. t.scalars i (omega arith) }; fired = λ i below. absurd (omega arith) };
  back = λ s m t. (
    record { made = t.before.made; scalars = λ i below. t.before.scalars i (omega arith) },
    ap (λ ls. ls ++ from_fired net s.parts) (each_none (scalar_lines net.scalars s.parts.given.scalars) j (length net.scalars) past)
        ∙ ap (λ ls. ls ++ from_value net s.parts) (sym (each_start (fired_lines s.parts.fired) (length net.units))),
  );
}

-- ---- units that have fired

pub flag_empty : (i : ℕ) → flag_lines i false ≡ []
flag_empty i = refl

pub flag_told : (i : ℕ) (b : Bool) → flag_lines i b ≡ [] → b ≡ false
flag_told i false e = refl
flag_told i true e = absurd (let z = ap length e in omega arith)

pub flag_is : (i : ℕ) (b : Bool) (l : List ℕ) (t : List (List ℕ)) → flag_lines i b ≡ l ∷ t → (b ≡ true) × (words (number_words (codes "fired") i) ≡ l)
flag_is i false l t e = absurd (let z = ap length e in omega arith)
flag_is i true l t e = (refl, first_of _ [] l t e)

module _ (net : Net) (checked : IsChecked net) (ws : List (List ℕ)) (a : AreWords ws) where
  fired_lack : (u : ℕ) → u < length net.units → LackAll 32 (number_words (codes "fired") u)
  fired_lack u w = let n = checked.numbered.units in lack_more 32 (codes "fired") _ refl (lack_more 32 (decimal u) [] (decimal_lacks 32 u (lit< tt) (omega arith)) (lack_none 32))

  unit_small : (u : ℕ) → u < length net.units → u < 2 ^ 64
  unit_small u w = let n = checked.numbered.units in omega arith

  -- a state's line of a unit that has fired
  fired_at : (s : Saved) → MaySave net s → (u : ℕ) (t : List (List ℕ)) → u < length net.units → flag_lines u (get_or s.parts.fired u false) ≡ words ws ∷ t
      → (get_or s.parts.fired u false ≡ true) × (number_words (codes "fired") u ≡ ws)
  fired_at s m u t w e =
      let f = flag_is u (get_or s.parts.fired u false) (words ws) t e in
      (f.0, same_words (codes "fired") (decimal u ∷ []) ws (fired_lack u w) a f.1)

  once_at : (s : Saved) → MaySave net s → (u : ℕ) → get_or s.parts.fired u false ≡ true → fires_once (kind_of net u) ≡ true
  once_at s m u e = by (fires_once (kind_of net u)) refl
    where
      by : (b : Bool) → fires_once (kind_of net u) ≡ b → fires_once (kind_of net u) ≡ true
      by true is = is
      by false is = absurd (false≢true (sym (m.fits.by_unit.fired u is) ∙ e))

  abbrev with_fired : Saved → List Bool → Option ℕ → Saved
  with_fired d fl o = record d { parts = record d.parts { fired = fl; value = o } }

  pub fired_pass : (from : ℕ) (d : Saved) → BlankFired net from d → ((u : ℕ) → FiredFits net.units from u → number_words (codes "fired") u ≡ ws → ⊥)
      → Passes net (ToFired net from d) (at_fired net from) (words ws) (ToValue net d) (at_value net)
  fired_pass from d b never = record {
    forth = λ s m t more e. record {
      before = t.before;
      fired = pass_forth false flag_lines flag_empty flag_told s.parts.fired d.parts.fired from (length net.units) (words ws) (from_value net s.parts) more b.within t.fired b.fired
          (λ u r low high is. (let f = fired_at s m u r high is in never u (record { from = low; within = high; once = once_at s m u f.0 }) f.1)) e;
    };
    back = λ s m t. (let q = pass_back false flag_lines flag_empty flag_told s.parts.fired d.parts.fired from (length net.units) (from_value net s.parts) b.within b.fired t.fired in (
      record { before = t.before; fired = q.0 },
      q.1,
    ));
  }

  pub fired_taken : (from : ℕ) (d : Saved) (u : ℕ) (fl : List Bool) (o : Option ℕ) → MaySave net d → BlankFired net from d → FiredFits net.units from u → number_words (codes "fired") u ≡ ws → fl ≡ set d.parts.fired u true
      → ((x : ℕ) → kind_of net x ≡ Exit → ValueFits net.result (get_or fl x false) o)
      → Taken net (ToFired net from d) (at_fired net from) (words ws) (record { stage = Fired (u + 1); saved = with_fired d fl o })
  fired_taken from d u fl o m b f e new value = record {
    stands = record {
      may = record { made = m.made; fits = fits_plain net d.parts d.parts.given fl o d.parts.strays m.fits m.fits.stands.fit (ap length new ∙ length-set d.parts.fired u true ∙ m.fits.by_unit.fired_long) once value m.fits.stands.strays m.fits.strays };
      blank = record { within = (let w = f.within in omega arith); fired = blank; chans = blank_chans net 0 d (with_fired d fl o) b.chans refl refl };
    };
    takes = record {
      forth = λ s k t more is. record {
        before = record { made = t.before.made; scalars = t.before.scalars };
        fired = subst (AgreeBelow false (u + 1) s.parts.fired) (sym new)
            (take_forth false flag_lines flag_empty flag_told s.parts.fired d.parts.fired from u (length net.units) true (words ws) (from_value net s.parts) more f.from f.within long t.fired b.fired
            (λ i r low high g. (let q = fired_at s k i r high g in (decimal_injective i u (unit_small i high) (unit_small u f.within) (ap (λ x. get_or x 1 []) (q.1 ∙ sym e)), q.0)))
            (λ g. no_fired net s.parts (words ws) more g (ap (λ x. key (words x)) (sym e))) is);
      };
      back = λ s k t. (let q = take_back false flag_lines flag_empty flag_told s.parts.fired d.parts.fired from u (length net.units) true (words ws) (from_value net s.parts) f.from f.within long b.fired
          (ap (λ x. words x ∷ []) e) (subst (AgreeBelow false (u + 1) s.parts.fired) new t.fired) in (
            record { before = record { made = t.before.made; scalars = t.before.scalars }; fired = q.0 },
            q.1,
          ));
    };
  }
    where
      long : u < length d.parts.fired
      long = let z = m.fits.by_unit.fired_long in let w = f.within in omega arith

      set_at : (x : ℕ) → (x ≡ u) ⊎ (x ≡ u → ⊥) → (get_or fl x false ≡ true) × (x ≡ u) ⊎ (get_or fl x false ≡ get_or d.parts.fired x false)
      set_at x (inl z) = inl (ap (λ l. get_or l x false) new ∙ ap (λ i. get_or (set d.parts.fired u true) i false) z ∙ get_or-set_same d.parts.fired u true false long, z)
      set_at x (inr n) = inr (ap (λ l. get_or l x false) new ∙ get_or-set_other d.parts.fired u x true false n)

      once : (x : ℕ) → fires_once (kind_of net x) ≡ false → get_or fl x false ≡ false
      once x never = by (set_at x (cases_eq x u))
        where
          by : (get_or fl x false ≡ true) × (x ≡ u) ⊎ (get_or fl x false ≡ get_or d.parts.fired x false) → get_or fl x false ≡ false
          by (inl h) = absurd (false≢true (sym never ∙ ap (λ i. fires_once (kind_of net i)) h.1 ∙ f.once))
          by (inr h) = h ∙ m.fits.by_unit.fired x never

      blank : BlankFrom false (u + 1) fl
      blank x low = by (set_at x (cases_eq x u))
        where
          by : (get_or fl x false ≡ true) × (x ≡ u) ⊎ (get_or fl x false ≡ get_or d.parts.fired x false) → get_or fl x false ≡ false
          by (inl h) = absurd (let z = h.1 in omega arith)
          by (inr h) = h ∙ b.fired x (let w = f.from in omega arith)

-- ---- the result

pub value_of : (o : Option Ty) (b : Bool) (p q : Option ℕ) → ValueFits o b p → ValueFits o b q → p ≡ None → q ≡ None
value_of None b p q f g e = g
value_of (Some ty) false p q f g e = g
value_of (Some ty) true None q f g e = absurd f
value_of (Some ty) true (Some v) q f g e = absurd (let z = ap is_some e in false≢true (sym z))

pub value_told : (o : Option Ty) (b : Bool) (p q : Option ℕ) → ValueFits o b p → ValueFits o b q → (v : ℕ) → p ≡ Some v → (w : ℕ) × (q ≡ Some w) × ValueIsOf o w
value_told None b p q f g v e = absurd (let z = ap is_some (sym f ∙ e) in false≢true z)
value_told (Some ty) false p q f g v e = absurd (let z = ap is_some (sym f ∙ e) in false≢true z)
value_told (Some ty) true p None f g v e = absurd g
value_told (Some ty) true p (Some w) f g v e = (w, refl, g)

pub value_other : (o : Option Ty) (b : Bool) (p : Option ℕ) (v w : ℕ) → ValueFits o b p → p ≡ Some v → ValueIsOf o w → ValueFits o b (Some w)
value_other None b p v w f e h = absurd h
value_other (Some ty) false p v w f e h = absurd (let z = ap is_some (sym f ∙ e) in false≢true z)
value_other (Some ty) true p v w f e h = h

pub value_small : (o : Option Ty) (w : ℕ) → ValueIsOf o w → w < 2 ^ 64
value_small None w h = absurd h
value_small (Some ty) w h = small ty w h
  where
    small : (ty : Ty) (w : ℕ) → w < 2 ^ ty_width ty → w < 2 ^ 64
    small I8 w h = omega arith
    small U8 w h = omega arith
    small I16 w h = omega arith
    small U16 w h = omega arith
    small I32 w h = omega arith
    small U32 w h = omega arith
    small I64 w h = h
    small U64 w h = h
