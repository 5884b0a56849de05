-- The passes of a queue are the queue's, also once some are taken.
pub use Rattle.job_queue.proofs.Hosting.{new_owned, rest_owned}
