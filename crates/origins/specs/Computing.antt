-- One name to compute with: to unfold it is to unfold every definition of this crate and of those below.
use Rattle.ascii.specs.Computing.{computing as ascii_computing}
use Rattle.origins.specs.Hosts.{is_label, is_host, is_origin_host}
use Rattle.origins.specs.Ports.{is_number, is_port, origin_port, is_port_part, port_part_of}
use Rattle.origins.specs.Origins.{starts_with, with_port, tuple_of, origin_of}
use Rattle.origins.specs.Expressions.{host_part_of, with_parts, host_source_of, starts_lowered, expression_of}
use Rattle.origins.specs.Matching.{scheme_admits, ends_in, port_admits, host_admits, admits_tuple, admits, same_tuple, same_origin}
use Rattle.origins.specs.NormalForms.{port_part_text, expression_parts_text, is_dropped, normal_port, normal, same_host, same_port, same_expression, origin_text}
use Rattle.origins.specs.Steps.{port_number}

unfoldable pub computing : Unit {0}
unfolding ascii_computing is_label is_host is_origin_host is_number is_port origin_port is_port_part port_part_of starts_with with_port tuple_of origin_of host_part_of with_parts host_source_of starts_lowered expression_of scheme_admits ends_in port_admits host_admits admits_tuple admits same_tuple same_origin port_part_text expression_parts_text is_dropped normal_port normal same_host same_port same_expression origin_text port_number
computing = tt
