-- Which lines follow one another in the text of a net.
use Rattle.std.proofs.Common.{◌≡◌, ℕ, ◌==◌, Bool, true, false, List, [], ◌∷◌, ◌++◌, map, codes, get_or, refl, sym, ap, subst, ◌∙◌, Option, Some, None}
use Rattle.std.specs.List.{All}
use Rattle.el_base.specs.declared.ty.Array.{Array as Arr}
use Rattle.el_base.specs.declared.ty.Scalar.{Scalar as Scal}
use Rattle.el_base.specs.declared.ty.Ty.{Ty}
use Rattle.net_types.specs.declared.net.Chan.{Chan as Channel}
use Rattle.net_types.specs.declared.net.Unit.{Unit as Kind}
use Rattle.net_types.specs.declared.net.Net.{Net}
use Rattle.net_text.specs.declared.body.BodyLine.{BodyLine}
use Rattle.net_text.specs.declared.body.BodyLine.TheVariants.{Scalar, Array, Result, Unit as UnitLine, Chan, End}
use Rattle.net_text.specs.declared.body.Stage.{Stage}
use Rattle.net_text.specs.declared.body.Stage.TheVariants.{Scalars, Arrays, Units, Chans, Ended}
use Rattle.net_text.specs.Fits.{ScalarFits, ArrayFits, ChanFits, WritesUnit, Writes}
use Rattle.net_text.specs.Reads.{scalar_text, array_text, result_text, unit_text, chan_text}
use Rattle.net_text.specs.Bodies.{LineFits, line_text, before_arrays, before_result, before_chans, after_result, may_stand, stage_after, body_texts}
use Rattle.net_text.proofs.UnitKinds.{unit_kind}
use Rattle.net_text.proofs.Lists.{All_head, All_tail, written_units}
use Rattle.net_text.specs.declared.version.Version.{Version}

-- each kind of line begins with a letter of its own
letter : BodyLine → ℕ
letter (Scalar s) = 115
letter (Array a) = 97
letter (Result t) = 114
letter (UnitLine u) = 117
letter (Chan c) = 99
letter End = 101

pub result_letter : (t : Option Ty) → get_or (result_text t) 0 0 ≡ 114
result_letter None = refl
result_letter (Some t) = refl

first_letter : (ver : Version) (x : BodyLine) → get_or (line_text ver x) 0 0 ≡ letter x
unfolding letter
first_letter ver (Scalar s) = refl
first_letter ver (Array a) = refl
first_letter ver (Result t) = result_letter t
first_letter ver (UnitLine u) = ap (λ l. get_or l 0 0) (unit_kind ver u)
first_letter ver (Chan c) = refl
first_letter ver End = refl

-- which line may stand at a stage, and the stage after it, by its first letter
abbrev pick : {A : Type 0} → Bool → A → A → A
pick true a b = a
pick false a b = b

abbrev pub may_of : ℕ → Stage → Bool
may_of b s = pick (b == 115) (before_arrays s) (pick (b == 97) (before_result s) (pick (b == 114) (before_result s) (pick (b == 117) (before_chans s) (after_result s))))

abbrev pub next_of : ℕ → Stage
next_of b = pick (b == 115) Scalars (pick (b == 97) Arrays (pick (b == 114) Units (pick (b == 117) Units (pick (b == 99) Chans Ended))))

may_letter : (x : BodyLine) (s : Stage) → may_stand x s ≡ may_of (letter x) s
unfolding letter
may_letter (Scalar x) s = refl
may_letter (Array x) s = refl
may_letter (Result x) s = refl
may_letter (UnitLine x) s = refl
may_letter (Chan x) s = refl
may_letter End s = refl

next_letter : (x : BodyLine) → stage_after x ≡ next_of (letter x)
unfolding letter
next_letter (Scalar x) = refl
next_letter (Array x) = refl
next_letter (Result x) = refl
next_letter (UnitLine x) = refl
next_letter (Chan x) = refl
next_letter End = refl

abbrev pub next : List ℕ → Stage
next l = next_of (get_or l 0 0)

pub next_text : (ver : Version) (x : BodyLine) → next (line_text ver x) ≡ stage_after x
next_text ver x = ap next_of (first_letter ver x) ∙ sym (next_letter x)

may_text : (ver : Version) (x : BodyLine) (s : Stage) → may_stand x s ≡ may_of (get_or (line_text ver x) 0 0) s
may_text ver x s = may_letter x s ∙ ap (λ b. may_of b s) (sym (first_letter ver x))

-- two values of one text may stand at the same stages
pub may_same : (ver : Version) (x y : BodyLine) (s : Stage) → line_text ver x ≡ line_text ver y → may_stand x s ≡ may_stand y s
may_same ver x y s e = may_text ver x s ∙ ap (λ l. may_of (get_or l 0 0) s) e ∙ sym (may_text ver y s)

-- some line of this text may stand at a stage
pub record Allowed (ver : Version) (s : Stage) (l : List ℕ) : Type 0 where
  pub value : BodyLine
  pub fits : LineFits ver value
  pub text : line_text ver value ≡ l
  pub stands : may_stand value s ≡ true

-- each line may stand where it stands
abbrev pub Path : (ver : Version) → Stage → List (List ℕ) → Type 0
Path ver s [] = Unit {0}
Path ver s (l ∷ ls) = Allowed ver s l × Path ver (next l) ls

-- the stage that lines reach
abbrev pub reach : Stage → List (List ℕ) → Stage
reach s [] = s
reach s (l ∷ ls) = reach (next l) ls

pub path_at : (ver : Version) (s : Stage) (ls more : List (List ℕ)) (l : List ℕ) → Path ver s (ls ++ l ∷ more) → Allowed ver (reach s ls) l
path_at ver s [] more l p = p.0
path_at ver s (x ∷ xs) more l p = path_at ver (next x) xs more l p.1

pub reach_more : (s : Stage) (ls : List (List ℕ)) (l : List ℕ) → reach s (ls ++ l ∷ []) ≡ next l
reach_more s [] l = refl
reach_more s (x ∷ xs) l = reach_more (next x) xs l

pub reach_append : (s : Stage) (ls more : List (List ℕ)) → reach s (ls ++ more) ≡ reach (reach s ls) more
reach_append s [] more = refl
reach_append s (x ∷ xs) more = reach_append (next x) xs more

allowed : (ver : Version) (x : BodyLine) (s : Stage) (rest : List (List ℕ)) → LineFits ver x → may_stand x s ≡ true → Path ver (stage_after x) rest → Path ver s (line_text ver x ∷ rest)
allowed ver x s rest fits stands path =
    let P : Stage → Type 0 = λ t. Path ver t rest in
    (record { value = x; fits = fits; text = refl; stands = stands }, subst P (sym (next_text ver x)) path)

scalars_path : (ver : Version) (ss : List Scal) (rest : List (List ℕ)) → All ScalarFits ss → Path ver Scalars rest → Path ver Scalars (map scalar_text ss ++ rest)
scalars_path ver [] rest h p = p
scalars_path ver (s ∷ ss) rest h p = allowed ver (Scalar s) Scalars (map scalar_text ss ++ rest) (All_head ScalarFits s ss h) refl (scalars_path ver ss rest (All_tail ScalarFits s ss h) p)

more_arrays : (ver : Version) (xs : List Arr) (rest : List (List ℕ)) → All ArrayFits xs → Path ver Arrays rest → Path ver Arrays (map array_text xs ++ rest)
more_arrays ver [] rest h p = p
more_arrays ver (x ∷ xs) rest h p = allowed ver (Array x) Arrays (map array_text xs ++ rest) (All_head ArrayFits x xs h) refl (more_arrays ver xs rest (All_tail ArrayFits x xs h) p)

arrays_path : (ver : Version) (xs : List Arr) (rest : List (List ℕ)) → All ArrayFits xs → Path ver Scalars rest → Path ver Arrays rest → Path ver Scalars (map array_text xs ++ rest)
arrays_path ver [] rest h p q = p
arrays_path ver (x ∷ xs) rest h p q = allowed ver (Array x) Scalars (map array_text xs ++ rest) (All_head ArrayFits x xs h) refl (more_arrays ver xs rest (All_tail ArrayFits x xs h) q)

units_path : (ver : Version) (us : List Kind) (rest : List (List ℕ)) → All (WritesUnit ver) us → Path ver Units rest → Path ver Units (map (unit_text ver) us ++ rest)
units_path ver [] rest h p = p
units_path ver (u ∷ us) rest h p = allowed ver (UnitLine u) Units (map (unit_text ver) us ++ rest) (All_head (WritesUnit ver) u us h) refl (units_path ver us rest (All_tail (WritesUnit ver) u us h) p)

more_chans : (ver : Version) (cs : List Channel) (rest : List (List ℕ)) → All ChanFits cs → Path ver Chans rest → Path ver Chans (map chan_text cs ++ rest)
more_chans ver [] rest h p = p
more_chans ver (c ∷ cs) rest h p = allowed ver (Chan c) Chans (map chan_text cs ++ rest) (All_head ChanFits c cs h) refl (more_chans ver cs rest (All_tail ChanFits c cs h) p)

chans_path : (ver : Version) (cs : List Channel) (rest : List (List ℕ)) → All ChanFits cs → Path ver Units rest → Path ver Chans rest → Path ver Units (map chan_text cs ++ rest)
chans_path ver [] rest h p q = p
chans_path ver (c ∷ cs) rest h p q = allowed ver (Chan c) Units (map chan_text cs ++ rest) (All_head ChanFits c cs h) refl (more_chans ver cs rest (All_tail ChanFits c cs h) q)

-- the lines of a net may each stand where they stand
pub body_path : (ver : Version) (net : Net) → Writes ver net → Path ver Scalars (body_texts ver net)
body_path ver net w =
    let fits = w.fits in
    let last : (s : Stage) → after_result s ≡ true → Path ver s (codes "end" ∷ []) = λ s e. allowed ver End s [] tt e tt in
    let body : Path ver Units (map (unit_text ver) net.units ++ (map chan_text net.chans ++ codes "end" ∷ [])) = units_path ver net.units (map chan_text net.chans ++ codes "end" ∷ []) (written_units ver net w)
    (chans_path ver net.chans (codes "end" ∷ []) fits.chans (last Units refl) (last Chans refl)) in
    let result : (s : Stage) → before_result s ≡ true → Path ver s (result_text net.result ∷ (map (unit_text ver) net.units ++ (map chan_text net.chans ++ codes "end" ∷ []))) =
    λ s e. allowed ver (Result net.result) s (map (unit_text ver) net.units ++ (map chan_text net.chans ++ codes "end" ∷ [])) tt e body in
    scalars_path ver net.scalars (map array_text net.arrays ++ (result_text net.result ∷ (map (unit_text ver) net.units ++ (map chan_text net.chans ++ codes "end" ∷ [])))) fits.scalars
    (arrays_path ver net.arrays (result_text net.result ∷ (map (unit_text ver) net.units ++ (map chan_text net.chans ++ codes "end" ∷ []))) fits.arrays (result Scalars refl) (result Arrays refl))
