use Rattle.std.proofs.Common.{length}
use Rattle.qn_etcd.proofs.heads.+length_of.Given as goal

-- each call is over fewer fields
abbrev pub decreases-length_of : goal.decreases-length_of
decreases-length_of l = length l.fields.now
