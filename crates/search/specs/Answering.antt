-- The answer of the search and the table that it leaves, refusals too.
use Rattle.std.specs.Prelude.{Bool, List, ◌++◌, ℕ, ltb, length, drop, Ok, is_ok}
use Rattle.std.specs.Result.{result_and}
use Rattle.basics.specs.Choose.{either, choose}
use Rattle.packet.specs.Packet.{Packet}
use Rattle.model.specs.Packets.{hyper_in, packets_in, packets_of}
use Rattle.limits.specs.Limits.{out_of_range}
use Rattle.refusals.specs.Refusals.{Tested, refuse_if, refusal_of}
use Rattle.model.specs.Answers.{answer_by}
use Rattle.model.specs.declared.flows.Mesh.{Mesh}
use Rattle.model.specs.declared.answers.Answer.{Answer}
use Rattle.model.specs.declared.answers.Refusal.TheVariants.{BadSettings, ShortTable}
use Rattle.passes.specs.Passes.{Found, search_by, skipped_in, lowest_skipped}
use Rattle.keys.specs.Slack.{slack_at}
use Rattle.reports.specs.Reports.{number_for, place_for}

-- 3: F outside 1 to 65,536 or G outside 1 to 16
unfoldable pub bad_settings : ℕ → ℕ → Bool
bad_settings f g = either (out_of_range 1 65536 f) (out_of_range 1 16 g)

-- the refusal of the settings
unfoldable pub settings_refusal : ℕ → ℕ → Tested
settings_refusal f g = refuse_if (bad_settings f g) BadSettings

-- 10: table shorter than the packets
unfoldable pub bad_table : List ℕ → List ℕ → Bool
bad_table numbers table = ltb (length table) (packets_in numbers)

-- the order of the tests: 2, 3, 4; then flow by flow 5, 6, 7; then 8, 9, 10
unfoldable pub search_refusal : Mesh → ℕ → ℕ → List ℕ → List ℕ → Tested
search_refusal mesh f g numbers table = result_and (refusal_of mesh (settings_refusal f g) numbers) (refuse_if (bad_table numbers table) ShortTable)

-- the search of the document: the list starts in order of least slack
abbrev pub search_of : List Packet → ℕ → ℕ → Found
search_of ps f g = search_by (slack_at ps) ps f g

-- 0 and 13 carry H and packets, passes, tries and skipped
unfoldable pub found_answer : List ℕ → List Packet → Found → Answer
found_answer numbers ps found = record {
  number = number_for (skipped_in ps found.table);
  place = place_for (skipped_in ps found.table) (lowest_skipped ps found.table);
  other = 0;
  hyper = hyper_in numbers;
  packets = packets_in numbers;
  passes = found.passes;
  tries = found.tries;
  skipped = skipped_in ps found.table;
}

-- the answer: that of the first refusal, or of the search
unfoldable pub answer_of : Mesh → ℕ → ℕ → List ℕ → List ℕ → Answer
answer_of mesh f g numbers table =
    answer_by (result_and (search_refusal mesh f g numbers table) (Ok (found_answer numbers (packets_of mesh numbers) (search_of (packets_of mesh numbers) f g))))

-- numbers 0 and 13 write exactly the first `packets` places of the lent table; every other number writes nothing
unfoldable pub table_after : Mesh → ℕ → ℕ → List ℕ → List ℕ → List ℕ
table_after mesh f g numbers table =
    choose (is_ok (search_refusal mesh f g numbers table))
    ((search_of (packets_of mesh numbers) f g).table ++ drop (packets_in numbers) table)
    table
