-- Lines of schedules, and schedules.
use Rattle.std.proofs.Common.{◌≡◌, ◌≢◌, ℕ, suc, ◌+◌, ◌*◌, ◌^◌, ◌<◌, ◌≤◌, ◌∙◌, List, [], ◌∷◌, ◌++◌, Result, Ok, Err, length, get_or, take, decimal, refl, sym, ap, subst, inl, inr, arith, append_assoc, length-append}
use Rattle.std.proofs.lemmas.Grind.{flat_map-append}
use Rattle.std.proofs.lemmas.List.{append-nil, take_more}
use Rattle.std.proofs.Math.Seq.{take-length}
use Rattle.std.specs.List.{All}
use Rattle.net_types.specs.declared.firing.Act.{Act}
use Rattle.net_types.specs.declared.firing.Firing.{Firing}
use Rattle.net_replay.specs.declared.schedule_refusal.ScheduleRefusal.{ScheduleRefusal}
use Rattle.net_replay.specs.declared.schedule_refusal.ScheduleRefusal.TheVariants.{Line, Memory}
use Rattle.net_replay.specs.Schedules.{FiringFits, BeginsNoLine, ScheduleText, act_text, firing_text, schedule_text}
use Rattle.net_replay.specs.Readings.{IsOnly, IsWrongLine, OneSchedule, ReadsBack, Says}
use Rattle.net_replay.specs.Words.{IsActBefore, IsNumberBefore}
use Rattle.net_replay.proofs.NumberLemmas.{number_one}
use Rattle.net_replay.proofs.ActLemmas.{act_one}

-- ---- lines

line_parted : (f : Firing) (more : List ℕ) → firing_text f ++ 10 ∷ more ≡ decimal f.unit ++ 32 ∷ (act_text f.act ++ 10 ∷ more)
line_parted f more = append_assoc (decimal f.unit) (32 ∷ act_text f.act) (10 ∷ more)

line_number : (text : List ℕ) (f : Firing) (more : List ℕ) → FiringFits f → text ≡ firing_text f ++ 10 ∷ more
    → IsNumberBefore 32 text f.unit (act_text f.act ++ 10 ∷ more)
line_number text f more fit e = record { fits = omega (arith, fit.unit); whole = e ∙ line_parted f more }

pub no_unit : (text : List ℕ) → ((n : ℕ) (more : List ℕ) → IsNumberBefore 32 text n more → ⊥) → BeginsNoLine text
no_unit text h f more fit e = h f.unit (act_text f.act ++ 10 ∷ more) (line_number text f more fit e)

pub great_unit : (text : List ℕ) (n : ℕ) (rest : List ℕ) → IsNumberBefore 32 text n rest → (n < 2 ^ 32 → ⊥) → BeginsNoLine text
great_unit text n rest k h f more fit e =
    let one = number_one 32 f.unit n text (act_text f.act ++ 10 ∷ more) rest refl (line_number text f more fit e) k in
    h (omega (arith, fit.unit, one.0))

pub no_act : (text : List ℕ) (n : ℕ) (rest : List ℕ) → IsNumberBefore 32 text n rest → ((a : Act) (more : List ℕ) → IsActBefore rest a more → ⊥) → BeginsNoLine text
no_act text n rest k h f more fit e =
    let one = number_one 32 f.unit n text (act_text f.act ++ 10 ∷ more) rest refl (line_number text f more fit e) k in
    h f.act more (record { fits = fit.act; whole = sym one.1 })

line_one : (f g : Firing) (x y : List ℕ) → FiringFits f → FiringFits g → firing_text f ++ 10 ∷ x ≡ firing_text g ++ 10 ∷ y → (f ≡ g) × (x ≡ y)
line_one f g x y ff gg e =
    let text = firing_text f ++ 10 ∷ x in
    let one = number_one 32 f.unit g.unit text (act_text f.act ++ 10 ∷ x) (act_text g.act ++ 10 ∷ y) refl (line_number text f x ff refl) (line_number text g y gg e) in
    let two = act_one (act_text f.act ++ 10 ∷ x) f.act g.act x y (record { fits = ff.act; whole = refl }) (record { fits = gg.act; whole = one.1 }) in
    let p = one.0 in
    let q = two.0 in
    ((λ i. record { unit = p i; act = q i }), two.1)

-- ---- schedules

text_parted : (f : Firing) (fs : List Firing) (x : List ℕ) → schedule_text (f ∷ fs) ++ x ≡ firing_text f ++ 10 ∷ (schedule_text fs ++ x)
text_parted f fs x = append_assoc (firing_text f ++ 10 ∷ []) (schedule_text fs) x ∙ append_assoc (firing_text f) (10 ∷ []) (schedule_text fs ++ x)

head_fits : (f : Firing) (fs : List Firing) → All FiringFits (f ∷ fs) → FiringFits f
head_fits f fs h = h 0 f (omega arith)

tail_fit : (f : Firing) (fs : List Firing) → All FiringFits (f ∷ fs) → All FiringFits fs
tail_fit f fs h = λ k d l. h (suc k) d (omega arith)

-- where no more lines follow, the firings of a text are one list, and what follows is one
pub one_way : (fs gs : List Firing) (x y : List ℕ) → All FiringFits fs → All FiringFits gs → schedule_text fs ++ x ≡ schedule_text gs ++ y → BeginsNoLine x → BeginsNoLine y
    → (fs ≡ gs) × (x ≡ y)
one_way [] [] x y ff gg e h k = (refl, e)
one_way [] (g ∷ gs) x y ff gg e h k = absurd (h g (schedule_text gs ++ y) (head_fits g gs gg) (e ∙ text_parted g gs y))
one_way (f ∷ fs) [] x y ff gg e h k = absurd (k f (schedule_text fs ++ x) (head_fits f fs ff) (sym e ∙ text_parted f fs x))
one_way (f ∷ fs) (g ∷ gs) x y ff gg e h k =
    let one = line_one f g (schedule_text fs ++ x) (schedule_text gs ++ y) (head_fits f fs ff) (head_fits g gs gg) (sym (text_parted f fs x) ∙ e ∙ text_parted g gs y) in
    let rest = one_way fs gs x y (tail_fit f fs ff) (tail_fit g gs gg) one.1 h k in
    let p = one.0 in
    let q = rest.0 in
    ((λ i. p i ∷ q i), rest.1)

line_long : (f : Firing) (more : List ℕ) → length more + 2 ≤ length (firing_text f ++ 10 ∷ more)
line_long f more =
    omega (arith, length-append (firing_text f) (10 ∷ more), length-append (decimal f.unit) (32 ∷ act_text f.act))

none_left : BeginsNoLine []
none_left f more fit e = let l : length more + 2 ≤ length (firing_text f ++ 10 ∷ more) = line_long f more in absurd (omega (arith, ap length e))

pub one_schedule : OneSchedule
one_schedule fs gs bytes ff gg a b = (one_way fs gs [] [] ff gg (append-nil (schedule_text fs) ∙ sym a ∙ b ∙ sym (append-nil (schedule_text gs))) none_left none_left).0

-- ---- answers

whole_or_wrong : (bytes : List ℕ) (fs : List Firing) (n : ℕ) → All FiringFits fs → ScheduleText fs bytes → IsWrongLine bytes n → ⊥
whole_or_wrong bytes fs n ff a h =
    let one = one_way fs h.before [] h.rest ff h.fit (append-nil (schedule_text fs) ∙ sym a ∙ h.whole) none_left h.wrong in
    omega (arith, ap length one.1, h.some)

one_wrong : (bytes : List ℕ) (m n : ℕ) → IsWrongLine bytes m → IsWrongLine bytes n → m ≡ n
one_wrong bytes m n h k =
    let one = one_way h.before k.before h.rest k.rest h.fit k.fit (sym h.whole ∙ k.whole) h.wrong k.wrong in
    h.counted ∙ ap (λ l. length l + 1) one.0 ∙ sym k.counted

pub only : (bytes : List ℕ) (r : Result (List Firing) ScheduleRefusal) → Says bytes r → IsOnly bytes r
only bytes (Ok fs) h (Ok gs) ne k = inl (ap Ok (one_schedule fs gs bytes h.0 k.0 h.1 k.1))
only bytes (Ok fs) h (Err (Line n)) ne k = absurd (whole_or_wrong bytes fs n h.0 h.1 k)
only bytes (Ok fs) h (Err Memory) ne k = absurd (ne refl)
only bytes (Err (Line m)) h (Ok gs) ne k = absurd (whole_or_wrong bytes gs m k.0 k.1 h)
only bytes (Err (Line m)) h (Err (Line n)) ne k = inl (ap (λ i. Err (Line i)) (one_wrong bytes m n h k))
only bytes (Err (Line m)) h (Err Memory) ne k = absurd (ne refl)
only bytes (Err Memory) h other ne k = inr refl

ok_is_not_err : (fs : List Firing) (r : ScheduleRefusal) → Ok fs ≢ Err r
ok_is_not_err fs r e = cc

pub reads_back : (bytes : List ℕ) (fs : List Firing) → All FiringFits fs → ScheduleText fs bytes → ReadsBack bytes fs
reads_back bytes fs ff a r h = only bytes r h (Ok fs) (ok_is_not_err fs Memory) (ff, a)

-- ---- reading

-- so many lines are read, each of two bytes and more
pub record IsReadTo (bytes : List ℕ) (fs : List Firing) (rest : List ℕ) (number : ℕ) : Type 0 where
  pub fit : All FiringFits fs
  pub whole : bytes ≡ schedule_text fs ++ rest
  pub counted : number ≡ length fs + 1
  pub room : 2 * length fs + length rest ≤ length bytes

-- ---- printing

pub print_more : (fs : List Firing) (i : ℕ) (d : Firing) (old new : List ℕ) → i < length fs → old ≡ schedule_text (take i fs)
    → new ≡ old ++ (firing_text (get_or fs i d) ++ 10 ∷ []) → new ≡ schedule_text (take (i + 1) fs)
print_more fs i d old new l a b =
    let f = get_or fs i d in
    b ∙ ap (λ x. x ++ (firing_text f ++ 10 ∷ [])) a ∙ ap (λ x. schedule_text (take i fs) ++ x) (sym (append-nil (firing_text f ++ 10 ∷ [])))
    ∙ sym (flat_map-append (λ g. firing_text g ++ 10 ∷ []) (take i fs) (f ∷ [])) ∙ ap schedule_text (sym (take_more fs i d l))

pub print_all : (fs : List Firing) (i : ℕ) (text : List ℕ) → i ≤ length fs → length fs ≤ i → text ≡ schedule_text (take i fs) → All FiringFits (take i fs) → ReadsBack text fs
print_all fs i text l k a fit =
    let is : i ≡ length fs = omega arith in
    let whole : take i fs ≡ fs = ap (λ n. take n fs) is ∙ take-length fs in
    reads_back text fs (subst (All FiringFits) whole fit) (a ∙ ap schedule_text whole)
