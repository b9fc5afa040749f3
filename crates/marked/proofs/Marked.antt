-- The marked examples hold: each row gives what the document says, computed from the definitions.
use mathlib.Core.Path.{◌≡◌, refl}
use mathlib.Core.List.{map}
use Rattle.basics.specs.First.{first_from, first, some, found}
use Rattle.basics.specs.Lists.{tabulate}
use Rattle.basics.specs.Sums.{sum_of, count_of}
use Rattle.mesh.specs.Node.{place_of, node_at, apart, distance_of}
use Rattle.mesh.specs.Link.{link_of, steps, step_of, end_of}
use Rattle.routes.specs.Route.{towards, leg, along_row, along_column, corner, route_of}
use Rattle.routes.specs.Share.{has, shares}
use Rattle.time.specs.Units.{flits_of, occupancy_of, turns_of, latest_of}
use Rattle.time.specs.Window.{overlaps}
use Rattle.hyperperiod.specs.Divisor.{gcd_f, gcd_of, lcm_of}
use Rattle.hyperperiod.specs.Hyper.{lcm_with, hyper_of}
use Rattle.packet.specs.Packet.{may_start, collide}
use Rattle.packet.specs.Table.{packet_at, time_at, outside, meets, meets_higher, placed}
use Rattle.model.specs.Flows.{number_of, source_of, target_of, period_of, size_of, due_of, flows_in, links_of_flow, occupancy_in}
use Rattle.model.specs.Packets.{periods_of, hyper_in, turns_in, packets_in, packet_of, packets_from, packets_of}
use Rattle.limits.specs.Limits.{out_of_range, bad_mesh, bad_list, bad_nodes, bad_times, too_long}
use Rattle.refusals.specs.Refusals.{bad_hyper, bad_packets, refuse_if, flow_refusal, bad_flow, flows_refusal, sums_refusal, refusal_of}
use Rattle.model.specs.Answers.{refusal_number, refusal_place, refusal_other, refused_by}
use Rattle.placing.specs.Placing.{in_the_way, free, time_of, slots_of, taken_of, placed_by, placing_of}
use Rattle.order.specs.Order.{insert, sorted}
use Rattle.settling.specs.Settling.{raised}
use Rattle.passes.specs.Pass.{pass_from, pass_over}
use Rattle.passes.specs.Passes.{passes_from, ceiling, search_from, skipped_in, lowest_skipped}
use Rattle.keys.specs.Slack.{slack_of, slack_at}
use Rattle.reports.specs.Reports.{number_for, place_for}
use Rattle.search.specs.Answering.{bad_settings, settings_refusal, bad_table, search_refusal, found_answer, answer_of, table_after}
use Rattle.audit.specs.Check.{too_short, check_refusal, passed_with, verdict_by, first_meeting, verdict_of, check_of}
use Rattle.marked.specs.Examples.{Example, occupancy_at, on_one_link, mesh_a, flows_a, in_short, in_full, examples}

-- every marked example gives what the document says
pub marked : map (λ (e : Example). e.gives) examples ≡ map (λ (e : Example). e.says) examples
unfolding first_from first some found tabulate sum_of count_of place_of node_at apart distance_of link_of steps step_of end_of towards leg along_row along_column corner route_of has shares flits_of occupancy_of turns_of latest_of overlaps gcd_f gcd_of lcm_of lcm_with hyper_of may_start collide packet_at time_at outside meets meets_higher number_of source_of target_of period_of size_of due_of flows_in links_of_flow occupancy_in periods_of hyper_in turns_in packets_in packet_of packets_from packets_of out_of_range bad_mesh bad_list bad_nodes bad_times too_long bad_hyper bad_packets refuse_if flow_refusal bad_flow flows_refusal sums_refusal refusal_of refusal_number refusal_place refusal_other refused_by placed in_the_way free time_of slots_of taken_of placed_by placing_of insert sorted slack_of slack_at raised pass_from pass_over passes_from ceiling search_from skipped_in lowest_skipped bad_settings settings_refusal bad_table search_refusal number_for place_for found_answer answer_of table_after too_short check_refusal passed_with verdict_by first_meeting verdict_of check_of occupancy_at on_one_link mesh_a flows_a in_short in_full examples
marked = refl
