-- Each typing rule's number and word, and what a refusal tells of its rule and its place; want of memory has neither.
use Rattle.std.specs.Prelude.{ℕ, List, Option, Some, None, codes}
use Rattle.el_base.specs.declared.span.Span.{Span}
use Rattle.c_types.specs.declared.fault.Rule.{Rule}
use Rattle.c_types.specs.declared.fault.Rule.TheVariants as rule
use Rattle.c_types.specs.declared.fault.TypeRefusal.{TypeRefusal}
use Rattle.c_types.specs.declared.fault.TypeRefusal.TheVariants as refusal

abbrev pub number_and_word : Rule → ℕ × List ℕ
number_and_word rule.Undeclared = (20, codes "Undeclared")
number_and_word rule.Redeclared = (21, codes "Redeclared")
number_and_word rule.NotArray = (22, codes "NotArray")
number_and_word rule.NotScalar = (23, codes "NotScalar")
number_and_word rule.Dimensions = (24, codes "Dimensions")
number_and_word rule.Length = (25, codes "Length")
number_and_word rule.ReturnKind = (26, codes "ReturnKind")
number_and_word rule.OutsideLoop = (27, codes "OutsideLoop")
number_and_word rule.NotHelper = (17, codes "NotHelper")
number_and_word rule.CallPlace = (28, codes "CallPlace")
number_and_word rule.Arguments = (29, codes "Arguments")

abbrev pub rule_number : Rule → ℕ
rule_number r = (number_and_word r).0

abbrev pub rule_word : Rule → List ℕ
rule_word r = (number_and_word r).1

abbrev pub number_of : TypeRefusal → Option ℕ
number_of (refusal.Broken f) = Some (rule_number f.rule)
number_of refusal.Memory = None

abbrev pub word_of : TypeRefusal → List ℕ
word_of (refusal.Broken f) = rule_word f.rule
word_of refusal.Memory = codes "Memory"

abbrev pub span_of : TypeRefusal → Option Span
span_of (refusal.Broken f) = Some f.span
span_of refusal.Memory = None
