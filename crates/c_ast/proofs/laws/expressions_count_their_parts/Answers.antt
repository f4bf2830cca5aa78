use Rattle.c_ast.proofs.NodeEquations.{expr_number, expr_name, expr_element, expr_call, expr_unary, expr_cast, expr_binary, expr_choice}
use Rattle.c_ast.proofs.laws.expressions_count_their_parts.Goals as goal

pub returns : goal.returns
returns c = record {
  number = expr_number;
  name = expr_name;
  element = expr_element;
  call = expr_call;
  unary = expr_unary;
  cast = expr_cast;
  binary = expr_binary;
  choice = expr_choice;
}
