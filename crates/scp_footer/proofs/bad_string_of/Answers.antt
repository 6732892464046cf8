-- Each return meets the tests before it.
use borrow.Author.Rules.{rules}
use Rattle.scp_footer.proofs.Strings.{string_low, string_past, string_in}
use Rattle.scp_footer.proofs.bad_string_of.Goals as goal

pub returns-then-o-table_end : goal.returns-then-o-table_end
returns-then-o-table_end c = string_low _ _ _ _ (search rules)

pub returns-then-data_end-o : goal.returns-then-data_end-o
returns-then-data_end-o c = string_past _ _ _ _ (search rules)

pub returns : goal.returns
returns c = string_in _ _ _ _ (search rules) (search rules) _ c.zero_within.ensures
