-- A walk back along the jumps comes to exactly the blocks that are reached.
use Rattle.std.proofs.Common.{◌≡◌, ◌⊎◌, inl, inr, ℕ, zero, suc, ◌+◌, ◌<◌, Bool, true, false, not, cond, List, [], ◌∷◌, ◌++◌, length, get_or, set, replicate, refl, sym, ◌∙◌, ap, subst, arith, length-set, get_or-set_same, get_or-set_other, length-append}
use Rattle.std.specs.Prelude.{◌||◌}
use Rattle.std.specs.List.{Contains, count_by}
use Rattle.std.proofs.lemmas.Bool.{cases_eq, cases_lt}
use Rattle.std.proofs.lemmas.List.{get_or-replicate, get_or_past, get_or_default, length-replicate}
use Rattle.std.proofs.lemmas.List.Elements.{Contains-append_left, Contains-push, Contains-push_cases}
use Rattle.std.proofs.lemmas.List.Sums.{sum_by-set}
use Rattle.block_args.specs.Tables.{listed_at}
use Rattle.block_args.specs.Walks.{Reached, Walk, walk, visited, visited_all, AreReached}

abbrev one : Bool → ℕ
one b = cond b 1 0

-- a block is closed or was seen
abbrev pub Passed : List Bool → List Bool → ℕ → Type 0
Passed closed seen b = (get_or closed b false ≡ true) ⊎ (get_or seen b true ≡ true)

-- ---- marks, in a list that gives true past its end and one that gives false there

in_range : (xs : List Bool) (b : ℕ) → get_or xs b true ≡ false → b < length xs
in_range xs b h = elim (cases_lt b (length xs)) [ inl lt ↦ lt | inr ge ↦ absurd (let e = get_or_past xs b true ge in cc) ]

within : (xs : List Bool) (b : ℕ) → get_or xs b false ≡ true → b < length xs
within xs b h = elim (cases_lt b (length xs)) [ inl lt ↦ lt | inr ge ↦ absurd (let e = get_or_past xs b false ge in cc) ]

weaker : (xs : List Bool) (b : ℕ) → get_or xs b false ≡ true → get_or xs b true ≡ true
weaker xs b h = get_or_default xs b true false (within xs b h) ∙ h

stronger : (xs : List Bool) (b : ℕ) → b < length xs → get_or xs b true ≡ true → get_or xs b false ≡ true
stronger xs b lt h = get_or_default xs b false true lt ∙ h

-- what more visits keep and add: w becomes u, where the blocks bs are visited
record Grown (closed : List Bool) (bs : List ℕ) (w u : Walk) : Type 0 where
  many : length u.seen ≡ length w.seen
  seen : (b : ℕ) → get_or w.seen b false ≡ true → get_or u.seen b false ≡ true
  passed : (b : ℕ) → get_or w.seen b true ≡ true → get_or u.seen b true ≡ true
  fresh : (b : ℕ) → get_or u.seen b false ≡ true → (get_or w.seen b false ≡ true) ⊎ (Contains bs b × (get_or closed b false ≡ false) × Contains u.ahead b)
  ahead : (b : ℕ) → Contains w.ahead b → Contains u.ahead b
  kept : (b : ℕ) → Contains u.ahead b → Contains w.ahead b ⊎ (get_or u.seen b false ≡ true)
  all : (b : ℕ) → Contains bs b → Passed closed u.seen b
  count : count_by not u.seen + length u.ahead ≡ count_by not w.seen + length w.ahead

-- a visit of a new block
entered : (closed : List Bool) (w : Walk) (b : ℕ) → get_or closed b false ≡ false → get_or w.seen b true ≡ false → Grown closed (b ∷ []) w (walk (set w.seen b true) (w.ahead ++ b ∷ []))
entered closed w b open_ unseen = record {
  many = length-set w.seen b true;
  seen = λ c h. elim (cases_eq c b) [
    | inl e ↦ subst (λ k. get_or (set w.seen b true) k false ≡ true) (sym e) (get_or-set_same w.seen b true false lt)
    | inr ne ↦ get_or-set_other w.seen b c true false ne ∙ h
  ];
  passed = λ c h. elim (cases_eq c b) [
    | inl e ↦ subst (λ k. get_or (set w.seen b true) k true ≡ true) (sym e) (get_or-set_same w.seen b true true lt)
    | inr ne ↦ get_or-set_other w.seen b c true true ne ∙ h
  ];
  fresh = λ c h. elim (cases_eq c b) [
    | inl e ↦ inr (
      subst (Contains (b ∷ [])) (sym e) (0, omega arith, refl),
      subst (λ k. get_or closed k false ≡ false) (sym e) open_,
      subst (Contains (w.ahead ++ b ∷ [])) (sym e) (Contains-push w.ahead b),
    )
    | inr ne ↦ inl (sym (get_or-set_other w.seen b c true false ne) ∙ h)
  ];
  ahead = λ c h. Contains-append_left w.ahead (b ∷ []) c h;
  kept = λ c h. elim (Contains-push_cases w.ahead b c h) [
    | inl old ↦ inl old
    | inr e ↦ inr (subst (λ k. get_or (set w.seen b true) k false ≡ true) e (get_or-set_same w.seen b true false lt))
  ];
  all = λ c h. elim (cases_eq c b) [
    | inl e ↦ inr (subst (λ k. get_or (set w.seen b true) k true ≡ true) (sym e) (get_or-set_same w.seen b true true lt))
    | inr ne ↦ absurd (ne (only c h))
  ];
  count =
      let s = sum_by-set (λ (x : Bool). one (not x)) w.seen b true true lt in
      let z : one (not (get_or w.seen b true)) ≡ 1 = ap (λ x. one (not x)) unseen in
      omega (arith, length-append w.ahead (b ∷ []));
}
  where
    lt : b < length w.seen
    lt = in_range w.seen b unseen

    only : (c : ℕ) → Contains (b ∷ []) c → c ≡ b
    only c (zero, l, e) = sym e
    only c (suc k, l, e) = absurd (omega arith)

-- no visit, of a block that is closed or seen
left_out : (closed : List Bool) (w : Walk) (b : ℕ) → Passed closed w.seen b → Grown closed (b ∷ []) w w
left_out closed w b p = record {
  many = refl;
  seen = λ c h. h;
  passed = λ c h. h;
  fresh = λ c h. inl h;
  ahead = λ c h. h;
  kept = λ c h. inl h;
  all = λ c h. subst (Passed closed w.seen) (only c h) p;
  count = refl;
}
  where
    only : (c : ℕ) → Contains (b ∷ []) c → b ≡ c
    only c (zero, l, e) = e
    only c (suc k, l, e) = absurd (omega arith)

visit_grows : (closed : List Bool) (w : Walk) (b : ℕ) → Grown closed (b ∷ []) w (visited closed w b)
visit_grows closed w b = by (get_or closed b false) (get_or w.seen b true) refl refl
  where
    by : (x y : Bool) → get_or closed b false ≡ x → get_or w.seen b true ≡ y → Grown closed (b ∷ []) w (visited closed w b)
    by true y e f = subst (Grown closed (b ∷ []) w) (sym (ap (λ (z : Bool). cond (not (z || get_or w.seen b true)) (walk (set w.seen b true) (w.ahead ++ b ∷ [])) w) e)) (left_out closed w b (inl e))
    by false true e f =
        subst (Grown closed (b ∷ []) w)
        (sym (ap (λ (z : Bool). cond (not (z || get_or w.seen b true)) (walk (set w.seen b true) (w.ahead ++ b ∷ [])) w) e ∙ ap (λ (z : Bool). cond (not (false || z)) (walk (set w.seen b true) (w.ahead ++ b ∷ [])) w) f))
        (left_out closed w b (inr f))
    by false false e f =
        subst (Grown closed (b ∷ []) w)
        (sym (ap (λ (z : Bool). cond (not (z || get_or w.seen b true)) (walk (set w.seen b true) (w.ahead ++ b ∷ [])) w) e ∙ ap (λ (z : Bool). cond (not (false || z)) (walk (set w.seen b true) (w.ahead ++ b ∷ [])) w) f))
        (entered closed w b e f)

-- first one block, then others
grown_on : (closed : List Bool) (w v u : Walk) (b : ℕ) (bs : List ℕ) → Grown closed (b ∷ []) w v → Grown closed bs v u → Grown closed (b ∷ bs) w u
grown_on closed w v u b bs f g = record {
  many = g.many ∙ f.many;
  seen = λ c h. g.seen c (f.seen c h);
  passed = λ c h. g.passed c (f.passed c h);
  fresh = λ c h. elim (g.fresh c h) [
    | inl old ↦ elim (f.fresh c old) [
      | inl older ↦ inl older
      | inr new ↦ inr (first c new.0, new.1, g.ahead c new.2)
    ]
    | inr new ↦ inr (later c new.0, new.1, new.2)
  ];
  ahead = λ c h. g.ahead c (f.ahead c h);
  kept = λ c h. elim (g.kept c h) [
    | inl old ↦ elim (f.kept c old) [ inl older ↦ inl older | inr s ↦ inr (g.seen c s) ]
    | inr s ↦ inr s
  ];
  all = λ c h. all c h;
  count = g.count ∙ f.count;
}
  where
    first : (c : ℕ) → Contains (b ∷ []) c → Contains (b ∷ bs) c
    first c (zero, l, e) = (zero, omega arith, e)
    first c (suc k, l, e) = absurd (omega arith)

    later : (c : ℕ) → Contains bs c → Contains (b ∷ bs) c
    later c (k, l, e) = (suc k, omega arith, e)

    all : (c : ℕ) → Contains (b ∷ bs) c → Passed closed u.seen c
    all c (zero, l, e) = elim (f.all c (zero, omega arith, e)) [ inl x ↦ inl x | inr s ↦ inr (g.passed c s) ]
    all c (suc k, l, e) = g.all c (k, omega arith, e)

visits_grow : (closed : List Bool) (w : Walk) (bs : List ℕ) → Grown closed bs w (visited_all closed w bs)
visits_grow closed w [] = record {
  many = refl;
  seen = λ c h. h;
  passed = λ c h. h;
  fresh = λ c h. inl h;
  ahead = λ c h. h;
  kept = λ c h. inl h;
  all = λ c h. absurd (let l = h.1 in omega arith);
  count = refl;
}
visits_grow closed w (b ∷ bs) = grown_on closed w (visited closed w b) (visited_all closed (visited closed w b) bs) b bs (visit_grows closed w b) (visits_grow closed (visited closed w b) bs)

-- ---- the walk

-- what the loop of the walk keeps
pub record IsWalked (before : List (List ℕ)) (closed : List Bool) (starts : List ℕ) (w : Walk) : Type 0 where
  pub many : length w.seen ≡ length before
  pub sound : (b : ℕ) → get_or w.seen b false ≡ true → Reached before closed starts b
  pub kept : (b : ℕ) → Contains w.ahead b → get_or w.seen b false ≡ true
  pub started : (b : ℕ) → Contains starts b → get_or w.seen b true ≡ true
  pub done : (c b : ℕ) → get_or w.seen c false ≡ true → Contains (listed_at before c) b → Passed closed w.seen b ⊎ Contains w.ahead c

pub none_set : (n b : ℕ) → get_or (replicate n false) b false ≡ true → ⊥
none_set n b h = elim (cases_lt b n) [
  | inl lt ↦ let e = get_or-replicate n b false false lt in cc
  | inr ge ↦ let e = get_or_past (replicate n false) b false (omega (arith, length-replicate n false)) in cc
]

-- at first the starts are seen and ahead
pub walk_begins : (before : List (List ℕ)) (closed : List Bool) (starts : List ℕ) (seen : List Bool) (ahead : List ℕ) (w : Walk) → seen ≡ replicate (length before) false → ahead ≡ []
    → w ≡ visited_all [] (walk seen ahead) starts → IsWalked before closed starts w
walk_begins before closed starts seen ahead w s a e =
    subst (IsWalked before closed starts) (sym (e ∙ ap (λ xs. visited_all [] (walk xs ahead) starts) s ∙ ap (λ xs. visited_all [] (walk (replicate (length before) false) xs) starts) a)) begun
  where
    g : Grown [] starts (walk (replicate (length before) false) []) (visited_all [] (walk (replicate (length before) false) []) starts)
    g = visits_grow [] (walk (replicate (length before) false) []) starts

    fresh : (b : ℕ) → get_or (visited_all [] (walk (replicate (length before) false) []) starts).seen b false ≡ true → Contains starts b × Contains (visited_all [] (walk (replicate (length before) false) []) starts).ahead b
    fresh b h = elim (g.fresh b h) [ inl old ↦ absurd (none_set (length before) b old) | inr new ↦ (new.0, new.2) ]

    begun : IsWalked before closed starts (visited_all [] (walk (replicate (length before) false) []) starts)
    begun = record {
      many = g.many ∙ length-replicate (length before) false;
      sound = λ b h. Reached.at_start b (fresh b h).0;
      kept = λ b h. elim (g.kept b h) [ inl old ↦ absurd (let l = old.1 in omega arith) | inr s ↦ s ];
      started = λ b h. elim (g.all b h) [ inl x ↦ absurd (cc) | inr s ↦ s ];
      done = λ c b h k. inr (fresh c h).1;
    }

-- a block is taken off, and the blocks that jump to it are visited
pub walk_goes : (before : List (List ℕ)) (closed : List Bool) (starts : List ℕ) (seen : List Bool) (ahead rest : List ℕ) (c : ℕ) (u : Walk)
    → IsWalked before closed starts (walk seen ahead) → ahead ≡ rest ++ c ∷ [] → u ≡ visited_all closed (walk seen rest) (listed_at before c) → IsWalked before closed starts u
walk_goes before closed starts seen ahead rest c u w a e =
    let g : Grown closed (listed_at before c) (walk seen rest) u = subst (Grown closed (listed_at before c) (walk seen rest)) (sym e) (visits_grow closed (walk seen rest) (listed_at before c)) in
    let here : get_or seen c false ≡ true = w.kept c (subst (λ xs. Contains xs c) (sym a) (Contains-push rest c)) in
    record {
      many = g.many ∙ w.many;
      sound = λ b h. elim (g.fresh b h) [
        | inl old ↦ w.sound b old
        | inr new ↦ Reached.one_back c b (w.sound c here) new.0 new.1
      ];
      kept = λ b h. elim (g.kept b h) [
        | inl old ↦ g.seen b (w.kept b (subst (λ xs. Contains xs b) (sym a) (Contains-append_left rest (c ∷ []) b old)))
        | inr s ↦ s
      ];
      started = λ b h. g.passed b (w.started b h);
      done = λ d b h k. elim (g.fresh d h) [
        | inl old ↦ elim (w.done d b old k) [
          | inl p ↦ inl (elim p [ inl x ↦ inl x | inr s ↦ inr (g.passed b s) ])
          | inr still ↦ elim (Contains-push_cases rest c d (subst (λ xs. Contains xs d) a still)) [
            | inl there ↦ inr (g.ahead d there)
            | inr is ↦ inl (g.all b (subst (λ n. Contains (listed_at before n) b) (sym is) k))
          ]
        ]
        | inr new ↦ inr new.2
      ];
    }

-- and there is less to do
pub walk_ends : (closed : List Bool) (bs : List ℕ) (seen : List Bool) (ahead rest : List ℕ) (c : ℕ) (u : Walk) → ahead ≡ rest ++ c ∷ [] → u ≡ visited_all closed (walk seen rest) bs
    → count_by not u.seen + length u.ahead < count_by not seen + length ahead
walk_ends closed bs seen ahead rest c u a e =
    let g : Grown closed bs (walk seen rest) u = subst (Grown closed bs (walk seen rest)) (sym e) (visits_grow closed (walk seen rest) bs) in
    let n = g.count in
    let l : length ahead ≡ length (rest ++ c ∷ []) = ap length a in
    omega (arith, length-append rest (c ∷ []))

-- in the end all that is reached is seen
pub walk_done : (before : List (List ℕ)) (closed : List Bool) (starts : List ℕ) (seen : List Bool) (ahead : List ℕ) → IsWalked before closed starts (walk seen ahead) → length ahead ≡ 0 → AreReached before closed starts seen
walk_done before closed starts seen ahead w none = record {
  many = w.many;
  sound = w.sound;
  all = λ b r lt. stronger seen b (let m = w.many in omega arith) (all b r);
}
  where
    all : (b : ℕ) → Reached before closed starts b → get_or seen b true ≡ true
    all b (Reached.at_start d s) = w.started b s
    all b (Reached.one_back c d r to open_) = elim (cases_lt c (length before)) [
      | inl lt ↦ elim (w.done c b (stronger seen c (let m = w.many in omega arith) (all c r)) to) [
        | inl p ↦ elim p [ inl x ↦ absurd (cc) | inr s ↦ s ]
        | inr still ↦ absurd (let l = still.1 in omega arith)
      ]
      | inr ge ↦ absurd (let e : listed_at before c ≡ [] = get_or_past before c [] ge in let l = (subst (λ xs. Contains xs b) e to).1 in omega arith)
    ]
