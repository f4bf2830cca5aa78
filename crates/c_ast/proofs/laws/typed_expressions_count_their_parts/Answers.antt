use Rattle.c_ast.proofs.TypedNodeEquations.{typed_number, typed_var, typed_element, typed_unary, typed_implied, typed_written, typed_binary, typed_choice}
use Rattle.c_ast.proofs.laws.typed_expressions_count_their_parts.Goals as goal

pub returns : goal.returns
returns c = record {
  number = typed_number;
  variable = typed_var;
  element = typed_element;
  unary = typed_unary;
  implied_cast = typed_implied;
  written_cast = typed_written;
  binary = typed_binary;
  choice = typed_choice;
}
