-- A program that a text spells has one fault that goes first.
use Rattle.std.proofs.Common.{◌≡◌, ℕ, false, ◌==◌, ◌&&◌, ◌||◌, nat_lt, nat_eq, if◌then◌else◌, List, [], All, refl, sym, ap, ◌∙◌, arith}
use Rattle.std.proofs.lemmas.Option.{same_Some}
use Rattle.std.proofs.lemmas.Bool.Decides.{nat_tests}
use Rattle.std.proofs.lemmas.List.Elements.{All-contains}
use Rattle.el_base.specs.declared.span.Span.{Span}
use Rattle.c_ast.specs.declared.token.Token.{Token}
use Rattle.c_ast.specs.declared.tree.Program.{Program}
use Rattle.c_ast.specs.ProgramTexts.{DerivesProgram}
use Rattle.c_ast.specs.Tokens.{Tokens}
use Rattle.c_types.specs.declared.fault.Rule.{Rule}
use Rattle.c_types.specs.declared.fault.Rule.TheVariants as rule
use Rattle.c_types.specs.declared.fault.Fault.{Fault}
use Rattle.c_types.specs.Places.{fault, is_before, IsFirst}
use Rattle.c_types.specs.Refusals.{rule_number}
use Rattle.c_types.specs.ProgramFaults.{program_faults}
use Rattle.kernel_front.proofs.Laid.{IsPlaceOf, place_from, tokens_laid}
use Rattle.kernel_front.proofs.FaultPlaces.{program_placed}

-- ---- a rule is known by its number

rule_by : ℕ → Rule
rule_by n =
    if n == 20 then rule.Undeclared else (if n == 21 then rule.Redeclared else (if n == 22 then rule.NotArray else (if n == 23 then rule.NotScalar
    else (if n == 24 then rule.Dimensions else (if n == 25 then rule.Length else (if n == 26 then rule.ReturnKind else (if n == 27 then rule.OutsideLoop else (if n == 17 then rule.NotHelper else (if n == 28 then rule.CallPlace else rule.Arguments)))))))))

rule_back : (r : Rule) → rule_by (rule_number r) ≡ r
unfolding rule_by
rule_back rule.Undeclared = refl
rule_back r = refl

same_rule : (r q : Rule) → rule_number r ≡ rule_number q → r ≡ q
same_rule r q e = sym (rule_back r) ∙ ap rule_by e ∙ rule_back q

-- ---- two faults neither of which goes before the other

same_start : (a b m n : ℕ) → (nat_lt a b || (nat_eq a b && nat_lt m n)) ≡ false → (nat_lt b a || (nat_eq b a && nat_lt n m)) ≡ false → a ≡ b
same_start a b m n h k = grind (arith, nat_tests)

same_number : (a b m n : ℕ) → (nat_lt a b || (nat_eq a b && nat_lt m n)) ≡ false → (nat_lt b a || (nat_eq b a && nat_lt n m)) ≡ false → m ≡ n
same_number a b m n h k = grind (arith, nat_tests)

-- ---- the place of a fault is known by its first byte

same_span : (ts : List Token) (s z : Span) → IsPlaceOf ts s → IsPlaceOf ts z → s.start ≡ z.start → s ≡ z
same_span ts s z h k e = same_Some s z (sym h ∙ ap (place_from ts) e ∙ k)

pub one_fault : (bytes : List ℕ) (ts : List Token) (p : Program) (f g : Fault) → Tokens bytes ts → DerivesProgram ts p → IsFirst f (program_faults p) → IsFirst g (program_faults p) → f ≡ g
one_fault bytes ts p f g read derived h k =
    let fs = program_faults p in
    let places = (program_placed (IsPlaceOf ts) ts p derived (record { from = 0; laid = tokens_laid bytes ts read })).each in
    let not_after = All-contains (λ q. is_before q f ≡ false) fs g h.none_before k.one_of_them in
    let not_before = All-contains (λ q. is_before q g ≡ false) fs f k.none_before h.one_of_them in
    let starts : f.span.start ≡ g.span.start = same_start f.span.start g.span.start (rule_number f.rule) (rule_number g.rule) not_before not_after in
    let numbers : rule_number f.rule ≡ rule_number g.rule = same_number f.span.start g.span.start (rule_number f.rule) (rule_number g.rule) not_before not_after in
    let spans : f.span ≡ g.span
    = same_span ts f.span g.span (All-contains (λ q. IsPlaceOf ts q.span) fs f places h.one_of_them) (All-contains (λ q. IsPlaceOf ts q.span) fs g places k.one_of_them) starts in
    ap (λ r. fault r f.span) (same_rule f.rule g.rule numbers) ∙ ap (fault g.rule) spans
