use Rattle.css_clean.proofs.FollowingLemmas.{leaves-alone}
use Rattle.css_clean.proofs.laws.what_follows_is_read_alone.Goals as goal

pub returns : goal.returns
returns c policy text in_block more = leaves-alone policy text in_block more
