-- A log with one firing more is kept as before.
use Rattle.std.proofs.Common.{◌≡◌, ℕ, suc, ◌+◌, ◌≤◌, ◌<◌, ◌^◌, Bool, true, false, cond, IsFalse, List, [], ◌∷◌, ◌++◌, length, refl, ap, ◌∙◌, sym, subst, arith}
use Rattle.std.proofs.lemmas.List.{length-append}
use Rattle.std.proofs.lemmas.List.Elements.{All-push}
use Rattle.net_types.specs.declared.firing.Firing.{Firing}
use Rattle.firing_log.specs.declared.entry.Entry.{Entry}
use Rattle.firing_log.specs.declared.firing_log.FiringLog.TheInside.{Inside}
use Rattle.firing_log.specs.declared.firing_log.Made.{Made}
use Rattle.firing_log.specs.Families.{family_of, has_number, has_serial, numbers_of, serials_of}
use Rattle.firing_log.specs.Kept.{count_of, IsKept}
use Rattle.firing_log.specs.Made.{entries_of, last_stamp, HaveStamps}
use Rattle.firing_log.proofs.Appended.{IsLong, one_if, appended, last_appended, count_appended, numbers_long, serials_long}

abbrev made_of : Firing → Bool → Made
made_of f b = record { unit = f.unit; family = family_of f.act; jumps = b }

-- what one addition does to the parts of a log
pub record IsAdded (old new : Inside) (s : ℕ) (f : Firing) (b : Bool) : Type 0 where
  pub made : new.made.items ≡ old.made.items ++ made_of f b ∷ []
  pub numbers : new.numbers.items ≡ old.numbers.items ++ numbers_of f.act
  pub serials : new.serials.items ≡ old.serials.items ++ serials_of f.act
  pub stamps : new.stamps.items ≡ old.stamps.items ++ cond b (s ∷ []) []
  pub room : new.made.room + 1 ≡ old.made.room
  pub number_room : old.numbers.room ≤ new.numbers.room + 1
  pub serial_room : old.serials.room ≤ new.serials.room + 1
  pub stamp_room : old.stamps.room ≤ new.stamps.room + 1
  pub last : new.last ≡ s
  pub next : IsFalse b → s ≡ suc old.last
  pub fits : s < 2 ^ 64

abbrev Fitting : Entry → Type 0
Fitting e = e.stamp < 2 ^ 64

-- a list of as many numbers as the firings need
counted : (p : Made → Bool) (ms ks : List Made) (k : Made) (xs ys zs : List ℕ) → length xs ≡ count_of p ms → ks ≡ ms ++ k ∷ [] → zs ≡ xs ++ ys → length ys ≡ one_if (p k)
    → length zs ≡ count_of p ks
counted p ms ks k xs ys zs l made is one =
    omega (arith, l, ap length is, length-append xs ys, one, count_appended p ms k, ap (count_of p) made)

stamps_long : (b : Bool) (s : ℕ) → length (cond b (s ∷ []) []) ≡ one_if b
stamps_long true s = refl
stamps_long false s = refl

module _ (old new : Inside) (s : ℕ) (f : Firing) (b : Bool) (kept : IsKept old) (add : IsAdded old new s f b) where
  next : IsFalse b → s ≡ suc (last_stamp 0 old.made.items old.stamps.items)
  next is = add.next is ∙ ap suc kept.last

  long : IsLong old.made.items old.numbers.items old.serials.items old.stamps.items
  long = record { numbers = kept.numbers; serials = kept.serials; stamps = kept.stamps }

  pub items_more : entries_of 0 new.made.items new.numbers.items new.serials.items new.stamps.items
      ≡ entries_of 0 old.made.items old.numbers.items old.serials.items old.stamps.items ++ record { stamp = s; firing = f } ∷ []
  items_more =
      ap (λ (v : List Made). entries_of 0 v new.numbers.items new.serials.items new.stamps.items) add.made
      ∙ (ap (λ (v : List ℕ). entries_of 0 (old.made.items ++ made_of f b ∷ []) v new.serials.items new.stamps.items) add.numbers
      ∙ (ap (λ (v : List ℕ). entries_of 0 (old.made.items ++ made_of f b ∷ []) (old.numbers.items ++ numbers_of f.act) v new.stamps.items) add.serials
      ∙ (ap (λ (v : List ℕ). entries_of 0 (old.made.items ++ made_of f b ∷ []) (old.numbers.items ++ numbers_of f.act) (old.serials.items ++ serials_of f.act) v) add.stamps
      ∙ appended 0 f.unit s f.act b old.made.items old.numbers.items old.serials.items old.stamps.items long next)))

  last_more : new.last ≡ last_stamp 0 new.made.items new.stamps.items
  last_more =
      add.last
      ∙ sym (ap (λ (v : List Made). last_stamp 0 v new.stamps.items) add.made
      ∙ (ap (λ (v : List ℕ). last_stamp 0 (old.made.items ++ made_of f b ∷ []) v) add.stamps
      ∙ last_appended 0 f.unit s f.act b old.made.items old.stamps.items kept.stamps next))

  pub kept_more : IsKept new
  kept_more = record {
    numbers = counted (λ m. has_number m.family) old.made.items new.made.items (made_of f b) old.numbers.items (numbers_of f.act) new.numbers.items kept.numbers add.made add.numbers (numbers_long f.act);
    serials = counted (λ m. has_serial m.family) old.made.items new.made.items (made_of f b) old.serials.items (serials_of f.act) new.serials.items kept.serials add.made add.serials (serials_long f.act);
    stamps = counted (λ m. m.jumps) old.made.items new.made.items (made_of f b) old.stamps.items (cond b (s ∷ []) []) new.stamps.items kept.stamps add.made add.stamps (stamps_long b s);
    number_room = omega (arith, kept.number_room, add.room, add.number_room);
    serial_room = omega (arith, kept.serial_room, add.room, add.serial_room);
    stamp_room = omega (arith, kept.stamp_room, add.room, add.stamp_room);
    last = last_more;
    have_stamps = subst HaveStamps (sym items_more)
        (All-push Fitting (entries_of 0 old.made.items old.numbers.items old.serials.items old.stamps.items) (record { stamp = s; firing = f }) kept.have_stamps add.fits);
  }
