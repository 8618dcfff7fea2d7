-- Answers whose errors are put aside.
pub use Rattle.content_ser.specs.Sending.Aside.{answer_of}
