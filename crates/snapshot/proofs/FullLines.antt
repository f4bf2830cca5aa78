-- No line feed stands in a line of a state's text, and its last line stands once.
use Rattle.std.proofs.Common.{◌≡◌, ◌≢◌, ℕ, zero, suc, ◌+◌, ◌<◌, ◌≤◌, List, [], ◌∷◌, ◌++◌, length, drop, get_or, refl, sym, ap, subst, ◌∙◌, arith, append_assoc}
use Rattle.std.specs.List.{All}
use Rattle.std.proofs.lemmas.List.Elements.{All-append, All-nil, All-head, All-tail}
use Rattle.net_types.specs.declared.net.Net.{Net}
use Rattle.net_types.specs.Nets.{kind_of}
use Rattle.net_text.specs.Bodies.{Complete}
use Rattle.net_text.proofs.Lists.{All_single}
use Rattle.snapshot.specs.declared.saved.Saved.{Saved}
use Rattle.snapshot.specs.Refusals.{MaySave, Begins, Spells, texts}
use Rattle.snapshot.specs.Texts.{each, value_lines, first_line, made_line, end_line, scalar_lines, fired_lines, chan_lines, fork_lines, queue_lines, array_lines, stray_lines}
use Rattle.snapshot.proofs.Keys.{key}

-- a line before the last one
pub record IsInner (l : List ℕ) : Type 0 where
  pub complete : Complete l
  pub other : key l ≢ key end_line

abbrev pub Inner : List (List ℕ) → Type 0
Inner ls = All IsInner ls

pub inner_each : (f : ℕ → List (List ℕ)) (i n : ℕ) → ((j : ℕ) → i ≤ j → j < i + n → Inner (f j)) → Inner (each f i n)
inner_each f i zero h = All-nil IsInner
inner_each f i (suc n) h = All-append IsInner (f i) (each f (suc i) n) (h i (omega arith) (omega arith)) (inner_each f (suc i) n (λ j a b. h j (omega arith) (omega arith)))

-- the lines before the last one
abbrev pub body : Net → Saved → List (List ℕ)
body net s =
    first_line ∷ made_line s.made ∷ (each (scalar_lines net.scalars s.parts.given.scalars) 0 (length net.scalars) ++ (each (fired_lines s.parts.fired) 0 (length net.units) ++ (value_lines s.parts.value
    ++ (each (chan_lines s.parts.tokens) 0 (length net.chans) ++ (each (fork_lines s.parts.sent) 0 (length net.units) ++ (each (queue_lines (kind_of net) s.parts.queues) 0 (length net.units)
    ++ (each (array_lines net.arrays s.parts.given.arrays) 0 (length net.arrays) ++ each (stray_lines net.arrays s.parts.strays) 0 (length net.arrays))))))))

in_turn : (a b z : List ℕ) (c d e f g h i j : List (List ℕ)) → a ∷ b ∷ (c ++ (d ++ (e ++ (f ++ (g ++ (h ++ (i ++ (j ++ z ∷ [])))))))) ≡ (a ∷ b ∷ (c ++ (d ++ (e ++ (f ++ (g ++ (h ++ (i ++ j)))))))) ++ z ∷ []
in_turn a b z c d e f g h i j = simp append_assoc refl

pub body_end : (net : Net) (s : Saved) → texts net s ≡ body net s ++ end_line ∷ []
body_end net s =
    in_turn first_line (made_line s.made) end_line (each (scalar_lines net.scalars s.parts.given.scalars) 0 (length net.scalars)) (each (fired_lines s.parts.fired) 0 (length net.units)) (value_lines s.parts.value)
    (each (chan_lines s.parts.tokens) 0 (length net.chans)) (each (fork_lines s.parts.sent) 0 (length net.units)) (each (queue_lines (kind_of net) s.parts.queues) 0 (length net.units))
    (each (array_lines net.arrays s.parts.given.arrays) 0 (length net.arrays)) (each (stray_lines net.arrays s.parts.strays) 0 (length net.arrays))

-- lines whose last one alone is the last goes on to no others
ends_once : (b c : List (List ℕ)) (l : List ℕ) (more : List (List ℕ)) → Inner b → Inner c → (b ++ end_line ∷ []) ++ l ∷ more ≡ c ++ end_line ∷ [] → ⊥
ends_once [] [] l more f g e = absurd (let z = ap length e in omega arith)
ends_once [] (x ∷ c) l more f g e = (All-head IsInner x c g).other (sym (ap (λ ls. key (get_or ls 0 [])) e))
ends_once (x ∷ b) [] l more f g e = (All-head IsInner x b f).other (ap (λ ls. key (get_or ls 0 [])) e)
ends_once (x ∷ b) (y ∷ c) l more f g e = ends_once b c l more (All-tail IsInner x b f) (All-tail IsInner y c g) (ap (drop 1) e)

module _ (net : Net) (inner : (s : Saved) → MaySave net s → Inner (body net s)) where
  pub whole_once : (a : List (List ℕ)) (l : List ℕ) → Spells net a → Begins net (a ++ l ∷ []) → ⊥
  whole_once a l w b =
      ends_once (body net w.saved) (body net b.saved) l b.more (inner w.saved w.may) (inner b.saved b.may)
      (ap (λ ls. ls ++ l ∷ b.more) (sym (body_end net w.saved) ∙ w.whole) ∙ sym (append_assoc a (l ∷ []) b.more) ∙ sym b.whole ∙ body_end net b.saved)

  pub all_complete : (s : Saved) → MaySave net s → All Complete (texts net s)
  all_complete s m =
      subst (All Complete) (sym (body_end net s))
      (All-append Complete (body net s) (end_line ∷ []) (λ k d l. (inner s m k d l).complete) (All_single Complete end_line refl))
